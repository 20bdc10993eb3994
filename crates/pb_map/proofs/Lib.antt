mod Changes
