mod QueueLemmas
mod ReportLemmas
