-- Writes of the lines that differ, one after the other, as a loop makes them.
use Rattle.std.proofs.Common.{◌≡◌, ℕ, ◌+◌, ◌<◌, zero, suc, Bool, true, false, not, List, [], ◌∷◌, ◌++◌, ◌≤◌, length, take, drop, set, get_or, refl, sym, ap, subst, ◌∙◌, add-one, arith}
use Rattle.std.specs.Prelude.{if◌then◌else◌}
use Rattle.std.proofs.Math.Seq.{take-suc, split_at}
use Rattle.std.proofs.lemmas.List.{append-nil, length-take-le, length-set, get_or-drop, drop-set-lt, take_all, take_more, take_more_set}
use Rattle.std.proofs.lemmas.Grind.{drop_more_same}
use Rattle.pb_pmem.specs.declared.line.Line.{Line}
use Rattle.pb_pmem.specs.declared.log.LogOp.{LogOp}
use Rattle.pb_pmem.specs.declared.log.LogOp.TheVariants.{Whole}
use Rattle.pb_pmem.specs.Device.{Device}
use Rattle.pb_pmem.specs.Lines.{line_at, zero_line}
use Rattle.pb_pmem.specs.Operations.{IsFailedPrefix, Does, Stops}
use Rattle.pb_pmem.proofs.OperationSteps.{does_then, stops_early, stops_late}
use Rattle.pb_layout.specs.RegionOps.{is_same, changes_from}
use Rattle.pb_layout.proofs.SparseWrites.{change_at, changes_from-none, changes_from-more, changes_from-append}

-- a line that was found by its place
pub line_found : (lines : List Line) (place : ℕ) (line : Line) → place < length lines → line ≡ get_or lines place line → line_at lines place ≡ line
line_found [] place line within is = absurd (omega arith)
line_found (first ∷ lines) zero line within is = sym is
line_found (first ∷ lines) (suc place) line within is = line_found lines place line (omega arith) is

-- a place of a loop over the lines: what is there, and what is to be there
pub record IsPlace (before lines : List Line) (place : ℕ) (old line : Line) : Type 0 where
  pub within : place < length lines
  pub old_within : place < length before
  pub old_is : old ≡ get_or before place old
  pub is : line ≡ get_or lines place line

changes_upto : (first : ℕ) (before lines rest : List Line) (place : ℕ) (old line : Line) → IsPlace before lines place old line → changes_from first before (take place lines ++ (line ∷ rest)) ≡ changes_from first before (take place lines) ++ (change_at (first + place) old line ++ changes_from (suc (first + place)) (drop (suc place) before) rest)
changes_upto first before lines rest place old line at =
    let long : length (take place lines) ≡ place = length-take-le place lines (omega (arith, at.within)) in
    let there : line_at (drop place before) 0 ≡ old = get_or-drop place before 0 zero_line ∙ (ap (line_at before) (omega arith) ∙ line_found before place old at.old_within at.old_is) in
    changes_from-append first before (take place lines) (line ∷ rest)
    ∙ (ap (λ (n : ℕ). changes_from first before (take place lines) ++ changes_from (first + n) (drop n before) (line ∷ rest)) long
    ∙ ap (λ (l : List LogOp). changes_from first before (take place lines) ++ l) (changes_from-more (first + place) (drop place before) line rest ∙ (λ i. change_at (first + place) (there i) line ++ changes_from (suc (first + place)) (drop-after place before i) rest)))
  where
    drop-after : (n : ℕ) (xs : List Line) → drop 1 (drop n xs) ≡ drop (suc n) xs
    drop-after zero xs = refl
    drop-after (suc n) [] = refl
    drop-after (suc n) (x ∷ xs) = drop-after n xs

changes_next : (first : ℕ) (before lines : List Line) (place : ℕ) (old line : Line) → IsPlace before lines place old line → changes_from first before (take (place + 1) lines) ≡ changes_from first before (take place lines) ++ change_at (first + place) old line
changes_next first before lines place old line at =
    let same : take (place + 1) lines ≡ take place lines ++ (line ∷ []) = ap (λ (n : ℕ). take n lines) (add-one place) ∙ (take-suc lines place line at.within ∙ ap (λ l. take place lines ++ (l ∷ [])) (sym at.is)) in
    ap (changes_from first before) same
    ∙ (changes_upto first before lines [] place old line at
    ∙ ap (λ (l : List LogOp). changes_from first before (take place lines) ++ l) (ap (λ (none : List LogOp). change_at (first + place) old line ++ none) (changes_from-none (suc (first + place)) (drop (suc place) before)) ∙ append-nil (change_at (first + place) old line)))

changes_all : (first : ℕ) (before lines : List Line) (place : ℕ) (old line : Line) → IsPlace before lines place old line → changes_from first before lines ≡ changes_from first before (take place lines) ++ (change_at (first + place) old line ++ changes_from (suc (first + place)) (drop (suc place) before) (drop (suc place) lines))
changes_all first before lines place old line at =
    let same : lines ≡ take place lines ++ (line ∷ drop (suc place) lines) = split_at lines place line at.within ∙ ap (λ l. take place lines ++ (l ∷ drop (suc place) lines)) (sym at.is) in
    ap (changes_from first before) same ∙ changes_upto first before lines (drop (suc place) lines) place old line at

-- the line there is the same
pub does_same : (first : ℕ) (before lines : List Line) (place : ℕ) (old line : Line) (x y : Device) → IsPlace before lines place old line → is_same old line ≡ true → Does (changes_from first before (take place lines)) x y → Does (changes_from first before (take (place + 1) lines)) x y
does_same first before lines place old line x y at same done =
    let none : change_at (first + place) old line ≡ [] = ap (λ (b : Bool). if b then [] else Whole (first + place) line ∷ []) same in
    subst (λ (l : List LogOp). Does l x y) (sym (changes_next first before lines place old line at ∙ (ap (λ (l : List LogOp). changes_from first before (take place lines) ++ l) none ∙ append-nil (changes_from first before (take place lines))))) done

one_change : (place : ℕ) (old line : Line) → is_same old line ≡ false → change_at place old line ≡ Whole place line ∷ []
one_change place old line other = ap (λ (b : Bool). if b then [] else Whole place line ∷ []) other

-- it differs, and is written
pub does_change : (first : ℕ) (before lines : List Line) (place : ℕ) (old line : Line) (x y z : Device) → IsPlace before lines place old line → is_same old line ≡ false → Does (changes_from first before (take place lines)) x y → Does (Whole (first + place) line ∷ []) y z → Does (changes_from first before (take (place + 1) lines)) x z
does_change first before lines place old line x y z at other done now =
    subst (λ (l : List LogOp). Does l x z) (sym (changes_next first before lines place old line at ∙ ap (λ (l : List LogOp). changes_from first before (take place lines) ++ l) (one_change (first + place) old line other))) (does_then (changes_from first before (take place lines)) (Whole (first + place) line ∷ []) x y z done now)

-- and that failed
pub stops_change : (first : ℕ) (before lines : List Line) (place : ℕ) (old line : Line) (x y z : Device) → IsPlace before lines place old line → is_same old line ≡ false → Does (changes_from first before (take place lines)) x y → Stops (IsFailedPrefix (Whole (first + place) line ∷ [])) y z → Stops (IsFailedPrefix (changes_from first before lines)) x z
stops_change first before lines place old line x y z at other done now =
    let rest = changes_from (suc (first + place)) (drop (suc place) before) (drop (suc place) lines) in
    subst (λ (l : List LogOp). Stops (IsFailedPrefix l) x z) (sym (changes_all first before lines place old line at ∙ ap (λ (l : List LogOp). changes_from first before (take place lines) ++ (l ++ rest)) (one_change (first + place) old line other)))
    (stops_late (changes_from first before (take place lines)) ((Whole (first + place) line ∷ []) ++ rest) x y z done (stops_early (Whole (first + place) line ∷ []) rest y z now))

-- The lines in memory, of which those before a place are written

pub record IsWrittenTo (old lines spare : List Line) (place : ℕ) : Type 0 where
  pub long : length spare ≡ length lines
  pub done : take place spare ≡ take place lines
  pub rest : drop place spare ≡ drop place old

-- what stands at the place is as it was
pub still_there : (old lines spare : List Line) (place : ℕ) (line : Line) → IsWrittenTo old lines spare place → place < length lines → line ≡ get_or spare place line → line ≡ get_or old place line
still_there old lines spare place line written within is =
    is ∙ (at spare ∙ (ap (λ (l : List Line). get_or l 0 line) written.rest ∙ sym (at old)))
  where
    at : (ls : List Line) → get_or ls place line ≡ get_or (drop place ls) 0 line
    at ls =
        let here : place ≡ place + 0 = omega arith in
        (λ i. get_or ls (here i) line) ∙ sym (get_or-drop place ls 0 line)

-- one more is written
pub written_more : (old lines spare : List Line) (place : ℕ) (line : Line) → IsWrittenTo old lines spare place → place < length lines → line ≡ get_or lines place line → IsWrittenTo old lines (set spare place line) (place + 1)
written_more old lines spare place line written within is = record {
  long = length-set spare place line ∙ written.long;
  done = take_more_set spare place line (omega (arith, within, written.long)) ∙ (ap (λ (l : List Line). l ++ line ∷ []) written.done ∙ (ap (λ (one : Line). take place lines ++ one ∷ []) is ∙ sym (take_more lines place line within)));
  rest = drop-set-lt (place + 1) spare place line (omega arith) ∙ drop_more_same spare old place written.rest;
}

-- or is there already
pub same_more : (old lines spare : List Line) (place : ℕ) (there line : Line) → IsWrittenTo old lines spare place → place < length lines → there ≡ get_or spare place there → line ≡ get_or lines place line → there ≡ line → IsWrittenTo old lines spare (place + 1)
same_more old lines spare place there line written within is_there is same = record {
  long = written.long;
  done = take_more spare place there (omega (arith, within, written.long)) ∙ ((λ i. written.done i ++ here i ∷ []) ∙ sym (take_more lines place line within));
  rest = drop_more_same spare old place written.rest;
}
  where
    here : get_or spare place there ≡ get_or lines place line
    here = sym is_there ∙ (same ∙ is)

pub none_written : (old lines : List Line) → length old ≡ length lines → IsWrittenTo old lines old 0
none_written old lines long = record { long = long; done = refl; rest = refl }

pub all_written : (old lines spare : List Line) (place : ℕ) → IsWrittenTo old lines spare place → length lines ≤ place → spare ≡ lines
all_written old lines spare place written all =
    sym (take_all place spare (omega (arith, written.long, all))) ∙ (written.done ∙ take_all place lines all)

-- what a comparison tells
pub differs : (result same : Bool) → result ≡ not same → result ≡ true → same ≡ false
differs result true is test = absurd (cc)
differs result false is test = refl

pub agrees : (result same : Bool) → result ≡ not same → result ≡ false → same ≡ true
agrees result true is test = refl
agrees result false is test = absurd (cc)
