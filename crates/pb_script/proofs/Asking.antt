-- A request is read field by field.
use Rattle.std.proofs.Common.{◌≡◌, ℕ, ◌+◌, List, [], ◌∷◌, Option, Some, None, refl}
use Rattle.std.specs.Option.{option_and_then}
use Rattle.pb_object.specs.declared.kind.Kind.{Kind}
use Rattle.pb_object.specs.declared.request.Op.{Op}
use Rattle.pb_object.specs.declared.request.Ask.{Ask}
use Rattle.pb_object.specs.declared.request.TheConstants.{LAST_NUMBER}
use Rattle.pb_script.specs.Request.{number_within, op_of, request_of}
use Rattle.pb_script.specs.Readers.{first_number}

request_with : ℕ → ℕ → Option Op → Option Ask
request_with client number op = option_and_then (λ op. Some (record { client = client; number = number; op = op })) op

numbered_with : Kind → ℕ → Option (ℕ × List (List ℕ)) → Option Ask
numbered_with kind client read = option_and_then {T = ℕ × List (List ℕ)} (λ number. request_with client number.0 (op_of kind number.1)) read

asked_with : Kind → Option (ℕ × List (List ℕ)) → Option Ask
asked_with kind read = option_and_then {T = ℕ × List (List ℕ)} (λ client. numbered_with kind client.0 (first_number 1 (LAST_NUMBER + 1) client.1)) read

no_number : (kind : Kind) (o : Option ℕ) → None ≡ asked_with kind (option_and_then (λ number. Some (number, [])) o)
unfolding asked_with numbered_with first_number
no_number kind None = refl
no_number kind (Some client) = refl

request_of_fields : (kind : Kind) (clients : ℕ) (fields : List (List ℕ)) → request_of kind clients fields ≡ asked_with kind (first_number 0 clients fields)
unfolding request_of request_with numbered_with asked_with first_number
request_of_fields kind clients [] = refl
request_of_fields kind clients (client ∷ []) = no_number kind (number_within 0 clients client)
request_of_fields kind clients (client ∷ number ∷ operation) =
    elim (number_within 0 clients client) as (λ o. option_and_then (λ c. option_and_then (λ n. request_with c n (op_of kind operation)) (number_within 1 (LAST_NUMBER + 1) number)) o ≡ asked_with kind (option_and_then (λ c. Some (c, number ∷ operation)) o)) [
      | None ↦ refl
      | Some c ↦ elim (number_within 1 (LAST_NUMBER + 1) number) as (λ o. option_and_then (λ n. request_with c n (op_of kind operation)) o ≡ numbered_with kind c (option_and_then (λ n. Some (n, operation)) o)) [ None ↦ refl | Some n ↦ refl ]
    ]

-- each part that is missing, and all of them
pub request_no_client : (kind : Kind) (clients : ℕ) (fields : List (List ℕ)) → None ≡ first_number 0 clients fields → None ≡ request_of kind clients fields
unfolding asked_with
request_no_client kind clients fields e = rw (request_of_fields kind clients fields, ← e) refl

pub request_no_number : (kind : Kind) (clients : ℕ) (fields : List (List ℕ)) (client : ℕ) (after : List (List ℕ)) → Some (client, after) ≡ first_number 0 clients fields → None ≡ first_number 1 (LAST_NUMBER + 1) after → None ≡ request_of kind clients fields
unfolding asked_with numbered_with
request_no_number kind clients fields client after e f = rw (request_of_fields kind clients fields, ← e, ← f) refl

pub request_no_operation : (kind : Kind) (clients : ℕ) (fields : List (List ℕ)) (client : ℕ) (after : List (List ℕ)) (number : ℕ) (operation : List (List ℕ)) → Some (client, after) ≡ first_number 0 clients fields → Some (number, operation) ≡ first_number 1 (LAST_NUMBER + 1) after → None ≡ op_of kind operation → None ≡ request_of kind clients fields
unfolding asked_with numbered_with request_with
request_no_operation kind clients fields client after number operation e f g = rw (request_of_fields kind clients fields, ← e, ← f, ← g) refl

pub request_whole : (kind : Kind) (clients : ℕ) (fields : List (List ℕ)) (client : ℕ) (after : List (List ℕ)) (number : ℕ) (operation : List (List ℕ)) (op : Op) → Some (client, after) ≡ first_number 0 clients fields → Some (number, operation) ≡ first_number 1 (LAST_NUMBER + 1) after → Some op ≡ op_of kind operation → Some (record { client = client; number = number; op = op }) ≡ request_of kind clients fields
unfolding asked_with numbered_with request_with
request_whole kind clients fields client after number operation op e f g = rw (request_of_fields kind clients fields, ← e, ← f, ← g) refl
