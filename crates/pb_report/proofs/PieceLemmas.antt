-- Text that is kept back and leaves in pieces.
use Rattle.std.proofs.Common.{◌≡◌, ℕ, zero, suc, ◌+◌, ◌-◌, ◌≤◌, List, [], ◌++◌, Option, length, min, take, drop, refl, sym, ap, subst, ◌∙◌, arith, append_assoc, append-nil, add-one}
use Rattle.std.proofs.lemmas.List.{take-append-le, take_min}
use Rattle.std.proofs.Math.Seq.{take-add, take-append-add}
use Rattle.std.specs.Io.KnownBytes.{Appends}
use Rattle.std.proofs.KnownBytes.{Appends-nil, Appends-trans}
use Rattle.pb_io.specs.SinkBytes.{AppendsSome}
use Rattle.pb_report.specs.Pieces.{Passes, joined}

-- the first bytes of a text, and then some of the rest, are first bytes of it
pub appends_more : (a b c : Option (List ℕ)) (text rest : List ℕ) (sent more : ℕ) → rest ≡ drop sent text → Appends a b (take sent text) → Appends b c (take more rest) → Appends a c (take (sent + more) text)
appends_more a b c text rest sent more rest_is first second =
    subst (Appends a c) (sym (take-add sent more text ∙ ap (λ l. take sent text ++ take more l) (sym rest_is))) (Appends-trans a b c _ _ first second)

-- nothing was written yet
pub passes_none : (known : Option (List ℕ)) (pending : List ℕ) → Passes known known pending pending []
passes_none known pending = record { gone = []; written = Appends-nil known; whole = sym (append-nil pending) }

-- one text after another
pub passes_more : (a b c : Option (List ℕ)) (before mid after first second : List ℕ) → Passes a b before mid first → Passes b c mid after second → Passes a c before after (first ++ second)
passes_more a b c before mid after first second p q = record {
  gone = p.gone ++ q.gone;
  written = Appends-trans a b c _ _ p.written q.written;
  whole = append_assoc p.gone q.gone after ∙ ap (λ l. p.gone ++ l) q.whole ∙ sym (append_assoc p.gone mid second) ∙ ap (λ l. l ++ second) p.whole ∙ append_assoc before first second;
}

-- all that was pending left
pub passes_all : (a b c : Option (List ℕ)) (pending text : List ℕ) → Passes a b [] pending text → Appends b c pending → Appends a c text
passes_all a b c pending text p last = subst (Appends a c) p.whole (Appends-trans a b c _ _ p.written last)

take_within : (count : ℕ) (text : List ℕ) → (k : ℕ) × (k ≤ length text) × (take count text ≡ take k text)
take_within count text = (min count (length text), omega arith, sym (take_min count text))

-- some of a text is some of a longer one
pub some_more : (a b : Option (List ℕ)) (text rest : List ℕ) → AppendsSome a b text → AppendsSome a b (text ++ rest)
some_more a b text rest some =
    let within = take_within some.0 text in
    (within.0, subst (Appends a b) (within.2 ∙ sym (take-append-le within.0 text rest within.1)) some.1)

-- some of what was pending, and of the text after it, left
pub passes_some : (a b c : Option (List ℕ)) (before mid first second : List ℕ) → Passes a b before mid first → AppendsSome b c (mid ++ second) → AppendsSome a c (before ++ (first ++ second))
passes_some a b c before mid first second p some =
    let count = length p.gone + some.0 in
    let same : take count (before ++ (first ++ second)) ≡ p.gone ++ take some.0 (mid ++ second) =
    ap (take count) (sym (append_assoc before first second) ∙ ap (λ l. l ++ second) (sym p.whole) ∙ append_assoc p.gone mid second)
    ∙ take-append-add p.gone (mid ++ second) some.0 in
    (count, subst (Appends a c) (sym same) (Appends-trans a b c _ _ p.written some.1))

-- the same, where nothing was pending at first
pub passes_some_first : (a b c : Option (List ℕ)) (mid text : List ℕ) → Passes a b [] mid text → AppendsSome b c mid → AppendsSome a c text
passes_some_first a b c mid text p some =
    subst (AppendsSome a c) (append-nil text) (passes_some a b c [] mid text [] p (subst (AppendsSome b c) (sym (append-nil mid)) some))

pub joined-zero : (line : ℕ → List ℕ) → joined line 0 ≡ []
unfolding joined
joined-zero line = refl

joined-more : (line : ℕ → List ℕ) (count : ℕ) → joined line (count + 1) ≡ joined line count ++ line count
unfolding joined
joined-more line count = rw (add-one) refl

pub joined-more_by : (line : ℕ → List ℕ) (count : ℕ) (text : List ℕ) → text ≡ line count → joined line (count + 1) ≡ joined line count ++ text
joined-more_by line count text is = joined-more line count ∙ ap (λ (last : List ℕ). joined line count ++ last) (sym is)

-- the first lines begin the text
joined-begins : (line : ℕ → List ℕ) (place more : ℕ) → (rest : List ℕ) × (joined line (more + place) ≡ joined line place ++ rest)
joined-begins line place zero = ([], ap (joined line) (omega arith) ∙ sym (append-nil (joined line place)))
joined-begins line place (suc more) =
    let before = joined-begins line place more in (
      before.0 ++ line (more + place),
      ap (joined line) (omega arith) ∙ joined-more line (more + place) ∙ ap (λ l. l ++ line (more + place)) before.1 ∙ append_assoc (joined line place) before.0 (line (more + place)),
    )

pub joined-split : (line : ℕ → List ℕ) (place count : ℕ) → place ≤ count → (rest : List ℕ) × (joined line count ≡ joined line place ++ rest)
joined-split line place count within =
    let split = joined-begins line place (count - place) in
    (split.0, ap (joined line) (omega arith) ∙ split.1)
