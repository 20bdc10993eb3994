-- Calls of a device one after the other.
use Rattle.std.proofs.Common.{◌≡◌, ℕ, ◌<◌, List, [], ◌∷◌, ◌++◌, Option, Some, None, refl, sym, ap, subst, ◌∙◌, inl, inr, append_assoc, Result, Ok, Err, OnOk, OnErr, ◌+◌, zero, suc, length, take, drop, get_or, add-one, arith}
use Rattle.std.proofs.Math.Seq.{take-suc, split_at}
use Rattle.std.proofs.lemmas.Result.{on_ok_weaker, on_err_weaker}
use Rattle.std.proofs.lemmas.List.{append-nil}
use Rattle.std.specs.Option.{option_map}
use Rattle.pb_pmem.specs.declared.line.Line.{Line}
use Rattle.pb_pmem.specs.declared.log.LogOp.{LogOp}
use Rattle.pb_pmem.specs.Contents.{applied}
use Rattle.pb_pmem.specs.Count.{Rose}
use Rattle.pb_pmem.specs.Device.{Device, Tale, Adds, Fails, MayAdd}
use Rattle.pb_pmem.proofs.Lines.{contents-none, contents-one, contents-append}
use Rattle.pb_pmem.specs.Operations.{IsFailedPrefix, with_ops, after, Does, Stops, IsFailedPrefixOfTwo, IsWithin, AllWithin}

-- one after another
told_then : (a b : List LogOp) (told : Option Tale) → option_map (with_ops b) (option_map (with_ops a) told) ≡ option_map (with_ops (a ++ b)) told
told_then a b None = refl
told_then a b (Some tale) = ap (λ log. Some (record tale { log = log })) (append_assoc tale.log a b)

told_none : (told : Option Tale) → told ≡ option_map (with_ops []) told
told_none None = refl
told_none (Some tale) = ap (λ log. Some (record tale { log = log })) (sym (append-nil tale.log))

now_then : (a b : List LogOp) (now : Option (List Line)) → option_map (after b) (option_map (after a) now) ≡ option_map (after (a ++ b)) now
now_then a b None = refl
now_then a b (Some lines) = ap (λ l. Some l) (sym (contents-append lines a b))

now_none : (now : Option (List Line)) → now ≡ option_map (after []) now
now_none None = refl
now_none (Some lines) = ap (λ l. Some l) (sym (contents-none lines))

now_one : (op : LogOp) (now : Option (List Line)) → option_map (applied op) now ≡ option_map (after (op ∷ [])) now
now_one op None = refl
now_one op (Some lines) = ap (λ l. Some l) (sym (contents-one lines op))

-- no call does nothing
pub does_none : (device : Device) → Does [] device device
does_none device = record { told = told_none device.told; now = now_none device.now; faults = refl }

-- one call that answered Ok
pub does_one : (op : LogOp) (old new : Device) → Adds op old new → Does (op ∷ []) old new
does_one op old new adds = record { told = adds.told; now = adds.now ∙ now_one op old.now; faults = adds.faults }

-- calls, and then others
pub does_then : (a b : List LogOp) (x y z : Device) → Does a x y → Does b y z → Does (a ++ b) x z
does_then a b x y z first second = record {
  told = second.told ∙ (ap (option_map (with_ops b)) first.told ∙ told_then a b x.told);
  now = second.now ∙ (ap (option_map (after b)) first.now ∙ now_then a b x.now);
  faults = second.faults ∙ first.faults;
}

-- one call that failed
pub stops_one : (op : LogOp) (old new : Device) → Fails (MayAdd op) old new → Stops (IsFailedPrefix (op ∷ [])) old new
stops_one op old new fails =
    elim fails.told [
      | inl same ↦ record {
        rose = fails.rose;
        ops = [];
        cut = record { prefix = []; failed = op; rest = []; whole = refl; added = inl refl };
        told = same ∙ told_none old.told;
      }
      | inr more ↦ record {
        rose = fails.rose;
        ops = more.0 ∷ [];
        cut = record { prefix = []; failed = op; rest = []; whole = refl; added = inr (more.0, more.1, refl) };
        told = more.2;
      }
    ]

-- the first calls are cut off, and so are all
cut_early : (a b ops : List LogOp) → IsFailedPrefix a ops → IsFailedPrefix (a ++ b) ops
cut_early a b ops cut = record {
  prefix = cut.prefix;
  failed = cut.failed;
  rest = cut.rest ++ b;
  whole = ap (λ l. l ++ b) cut.whole ∙ append_assoc cut.prefix (cut.failed ∷ cut.rest) b;
  added = cut.added;
}

-- the second ones are
cut_late : (a b ops : List LogOp) → IsFailedPrefix b ops → IsFailedPrefix (a ++ b) (a ++ ops)
cut_late a b ops cut = record {
  prefix = a ++ cut.prefix;
  failed = cut.failed;
  rest = cut.rest;
  whole = ap (λ l. a ++ l) cut.whole ∙ sym (append_assoc a cut.prefix (cut.failed ∷ cut.rest));
  added = elim cut.added [
    | inl none ↦ inl (ap (λ l. a ++ l) none)
    | inr more ↦ inr (more.0, more.1, ap (λ l. a ++ l) more.2 ∙ sym (append_assoc a cut.prefix (more.0 ∷ [])))
  ];
}

-- what holds of the operations may be weaker
pub stops_weaker : (Cut More : List LogOp → Type 0) (old new : Device) → ((ops : List LogOp) → Cut ops → More ops) → Stops Cut old new → Stops More old new
stops_weaker Cut More old new weaker stops = record { rose = stops.rose; ops = stops.ops; cut = weaker stops.ops stops.cut; told = stops.told }

-- after calls that answered Ok
pub stops_after : (Cut More : List LogOp → Type 0) (a : List LogOp) (x y z : Device) → ((ops : List LogOp) → Cut ops → More (a ++ ops)) → Does a x y → Stops Cut y z → Stops More x z
stops_after Cut More a x y z weaker first second = record {
  rose = subst (λ count. Rose count z.faults) first.faults second.rose;
  ops = a ++ second.ops;
  cut = weaker second.ops second.cut;
  told = second.told ∙ (ap (option_map (with_ops second.ops)) first.told ∙ told_then a second.ops x.told);
}

-- the first calls stopped
pub stops_early : (a b : List LogOp) (x y : Device) → Stops (IsFailedPrefix a) x y → Stops (IsFailedPrefix (a ++ b)) x y
stops_early a b x y = stops_weaker (IsFailedPrefix a) (IsFailedPrefix (a ++ b)) x y (cut_early a b)

-- the second ones did, after first ones that answered Ok
pub stops_late : (a b : List LogOp) (x y z : Device) → Does a x y → Stops (IsFailedPrefix b) y z → Stops (IsFailedPrefix (a ++ b)) x z
stops_late a b x y z = stops_after (IsFailedPrefix b) (IsFailedPrefix (a ++ b)) a x y z (cut_late a b)

-- in two parts, the first calls stopped
pub stops_first : (a b : List LogOp) (x y : Device) → Stops (IsFailedPrefix a) x y → Stops (IsFailedPrefixOfTwo a b) x y
stops_first a b x y = stops_weaker (IsFailedPrefix a) (IsFailedPrefixOfTwo a b) x y (λ ops cut. inl cut)

-- and the second ones did
pub stops_second : (a b : List LogOp) (x y z : Device) → Does a x y → Stops (IsFailedPrefix b) y z → Stops (IsFailedPrefixOfTwo a b) x z
stops_second a b x y z = stops_after (IsFailedPrefix b) (IsFailedPrefixOfTwo a b) a x y z (λ ops cut. inr (record { tail = ops; cut = cut; whole = refl }))

-- what one call answers: Ok
pub ok_one : {T E : Type 0} (result : Result T E) (given op : LogOp) (old new : Device) → given ≡ op → OnOk result (Adds op old new) → OnOk result (Does (given ∷ []) old new)
ok_one result given op old new same = on_ok_weaker result (λ adds. subst (λ (o : LogOp). Does (o ∷ []) old new) (sym same) (does_one op old new adds))

-- and an error
pub err_one : {T E : Type 0} (result : Result T E) (given op : LogOp) (old new : Device) → given ≡ op → OnErr result (Fails (MayAdd op) old new) → OnErr result (Stops (IsFailedPrefix (given ∷ [])) old new)
err_one result given op old new same = on_err_weaker result (λ fails. subst (λ (o : LogOp). Stops (IsFailedPrefix (o ∷ [])) old new) (sym same) (stops_one op old new fails))

-- an error with a fact
pub on_err : {T E P : Type 0} (result : Result T E) → P → OnErr result P
on_err (Ok value) fact = tt
on_err (Err error) fact = fact

-- operations up to a place were made, and the one there
pub does_next : (ops : List LogOp) (place : ℕ) (op : LogOp) (x y z : Device) → place < length ops → op ≡ get_or ops place op → Does (take place ops) x y → Does (op ∷ []) y z → Does (take (place + 1) ops) x z
does_next ops place op x y z within is first second =
    let same : take (place + 1) ops ≡ take place ops ++ (op ∷ []) = ap (λ (n : ℕ). take n ops) (add-one place) ∙ (take-suc ops place op within ∙ ap (λ o. take place ops ++ (o ∷ [])) (sym is)) in
    subst (λ (l : List LogOp). Does l x z) (sym same) (does_then (take place ops) (op ∷ []) x y z first second)

-- and the one there failed
pub stops_next : (ops : List LogOp) (place : ℕ) (op : LogOp) (x y z : Device) → place < length ops → op ≡ get_or ops place op → Does (take place ops) x y → Stops (IsFailedPrefix (op ∷ [])) y z → Stops (IsFailedPrefix ops) x z
stops_next ops place op x y z within is first second =
    let same : ops ≡ take place ops ++ (op ∷ drop (suc place) ops) = split_at ops place op within ∙ ap (λ o. take place ops ++ (o ∷ drop (suc place) ops)) (sym is) in
    subst (λ (l : List LogOp). Stops (IsFailedPrefix l) x z) (sym same)
    (stops_late (take place ops) (op ∷ drop (suc place) ops) x y z first (stops_early (op ∷ []) (drop (suc place) ops) y z second))

-- each of them lies within the device
pub within_at : (ops : List LogOp) (place : ℕ) (op : LogOp) → AllWithin ops → place < length ops → op ≡ get_or ops place op → IsWithin op
within_at [] place op all within is = absurd (omega arith)
within_at (first ∷ ops) zero op all within is = subst IsWithin (sym is) all.0
within_at (first ∷ ops) (suc place) op all within is = within_at ops place op all.1 (omega arith) is

-- what calls answer after others that answered Ok: Ok
pub ok_then : {T E : Type 0} (result : Result T E) (a b : List LogOp) (x y z : Device) → Does a x y → OnOk result (Does b y z) → OnOk result (Does (a ++ b) x z)
ok_then result a b x y z first = on_ok_weaker result (does_then a b x y z first)

-- an error
pub err_then : {T E : Type 0} (result : Result T E) (a b : List LogOp) (x y z : Device) → Does a x y → OnErr result (Stops (IsFailedPrefix b) y z) → OnErr result (Stops (IsFailedPrefix (a ++ b)) x z)
err_then result a b x y z first = on_err_weaker result (stops_late a b x y z first)

-- and an error in the second of two parts
pub err_second : {T E : Type 0} (result : Result T E) (a b : List LogOp) (x y z : Device) → Does a x y → OnErr result (Stops (IsFailedPrefix b) y z) → OnErr result (Stops (IsFailedPrefixOfTwo a b) x z)
err_second result a b x y z first = on_err_weaker result (stops_second a b x y z first)
