-- What a call of a chain leaves behind, and what a crash may leave at each of its moments.
use Rattle.std.proofs.Common.{◌≡◌, ◌⊎◌, ℕ, ◌≤◌, List, [], ◌++◌, length, take, Option, Some, sym, ap, subst, ◌∙◌, arith, inl, inr}
use Rattle.std.proofs.lemmas.List.{append_assoc, take_all, length-append, take-append-le}
use Rattle.pb_pmem.specs.declared.line.Line.{Line}
use Rattle.pb_pmem.specs.declared.log.LogOp.{LogOp}
use Rattle.pb_pmem.specs.Contents.{contents}
use Rattle.pb_pmem.specs.Crash.{IsCrashImage, IsCrashImageAt}
use Rattle.pb_pmem.specs.Device.{Device, Tale}
use Rattle.pb_pmem.specs.Operations.{with_ops}
use Rattle.pb_object.specs.History.{History, IsLegal, state_after}
use Rattle.pb_object.specs.Standing.{Standing}
use Rattle.pb_layout.specs.Covers.{IsCoveredBy, IsAsBefore}
use Rattle.pb_layout.specs.Damage.{HasRegion}
use Rattle.pb_layout.specs.LogHistory.{LoggedRound, rounds_in, history_of}
use Rattle.pb_layout.specs.Recovered.{Represents}
use Rattle.pb_layout.specs.ToldExits.{IsCoveredExit, IsReadyWith, contents_of}
use Rattle.pb_layout.proofs.LegalHistories.{KeepsAll}
use Rattle.pb_layout.proofs.LogHistories.{history_of-none}
use Rattle.pb_layout_laws.proofs.Growing.{rounds_of-compose}
use Rattle.pb_layout_laws.proofs.Histories.{state_after-append, rounds_in-append}
use Rattle.pb_broker.proofs.Points.{IsPrefixIn, IsLeft, IsSomeOf, AnyRounds, IsRegion, left_of_longer, left_alike}

-- the rounds of the log behind a moment of a tale
abbrev pub rounds_since : Tale → ℕ → History
rounds_since tale from = rounds_in (history_of tale.base tale.log from)

-- where nothing was done no round is told
pub no_rounds : (tale : Tale) → rounds_since tale (length tale.log) ≡ []
no_rounds tale = ap rounds_in (history_of-none tale.base tale.log)

-- A call that is covered

module _ (tale after : Tale) (s : Standing) (first : History) (history : List LoggedRound) (members : List (Option Standing)) (device : Device) (told : device.told ≡ Some after) (left : IsCoveredExit tale device (state_after s first) history members) where
  -- what the device tells then
  pub after_is : with_ops left.ops tale ≡ after
  after_is = some_tale (sym left.told ∙ told)
    where
      some_tale : {a b : Tale} → Some a ≡ Some b → a ≡ b
      some_tale is = cc (is)

  pub rounds_are : rounds_since after (length tale.log) ≡ rounds_in history
  rounds_are = subst (λ (t : Tale). rounds_since t (length tale.log) ≡ rounds_in history) after_is (ap rounds_in (sym left.exit.covers.told))

  module _ (MayBeBare : Type 0) (Holds : History → Type 0) (fine : (more lost : History) → rounds_in history ≡ more ++ lost → Holds (first ++ more)) (before : (image : List Line) → IsCrashImage tale.base tale.log image → IsLeft MayBeBare Holds s first image) where
    -- the rounds that a moment tells are the first ones
    covered_prefix : (moment : ℕ) → length tale.log ≤ moment → moment ≤ length (tale.log ++ left.ops) → (image : List Line) → IsCoveredBy (state_after s first) (history_of tale.base (take moment (tale.log ++ left.ops)) (length tale.log)) image → IsPrefixIn Holds s (first ++ rounds_in history) image
    covered_prefix moment low high image covered = record {
      kept = first ++ rounds_in covered.kept;
      lost = rounds_in covered.lost ++ later;
      whole = ap (λ (h : History). first ++ h) parts ∙ sym (append_assoc first (rounds_in covered.kept) (rounds_in covered.lost ++ later));
      stands = subst (Represents image) (sym (state_after-append s first (rounds_in covered.kept))) covered.stands;
      fine = fine (rounds_in covered.kept) (rounds_in covered.lost ++ later) parts;
    }
      where
        later : History
        later = rounds_in (history_of tale.base (tale.log ++ left.ops) moment)

        parts : rounds_in history ≡ rounds_in covered.kept ++ (rounds_in covered.lost ++ later)
        parts = ap rounds_in left.exit.covers.told ∙ rounds_of-compose tale.base (tale.log ++ left.ops) (length tale.log) moment low high
            ∙ ap (λ (h : History). h ++ later) (ap rounds_in covered.whole ∙ rounds_in-append covered.kept covered.lost)
            ∙ append_assoc (rounds_in covered.kept) (rounds_in covered.lost) later

    images_of : (moment : ℕ) → length tale.log ≤ moment → moment ≤ length (tale.log ++ left.ops) → (image : List Line) → IsCrashImageAt tale.base (tale.log ++ left.ops) moment image → IsLeft MayBeBare Holds s (first ++ rounds_in history) image
    images_of moment low high image crash =
        elim (left.exit.covers.images moment low high image crash) [
          | inl covered ↦ inr (covered_prefix moment low high image covered)
          | inr (none, past) ↦ left_of_longer (rounds_in history) (left_alike past.earlier image past.member past.stood past.stands (before past.earlier (at_entry past)))
        ]
      where
        at_entry : (past : IsAsBefore tale.base (tale.log ++ left.ops) (length tale.log) image) → IsCrashImage tale.base tale.log past.earlier
        at_entry past = subst (λ (log : List LogOp). IsCrashImage tale.base log past.earlier) (take-append-le (length tale.log) tale.log left.ops (omega arith) ∙ take_all (length tale.log) tale.log (omega arith)) past.left

    -- what a crash may leave at each moment of the call
    pub images_at : (moment : ℕ) → length tale.log ≤ moment → moment ≤ length after.log → (image : List Line) → IsCrashImageAt after.base after.log moment image → IsLeft MayBeBare Holds s (first ++ rounds_in history) image
    images_at =
        subst (λ (t : Tale). (moment : ℕ) → length tale.log ≤ moment → moment ≤ length t.log → (image : List Line) → IsCrashImageAt t.base t.log moment image → IsLeft MayBeBare Holds s (first ++ rounds_in history) image) after_is images_of

    -- .. and behind it
    pub images_behind : (image : List Line) → IsCrashImage after.base after.log image → IsLeft MayBeBare Holds s (first ++ rounds_in history) image
    images_behind image crash =
        images_at (length after.log) (subst (λ (t : Tale). length tale.log ≤ length t.log) after_is (omega (arith, length-append tale.log left.ops))) (omega arith) image
        (subst (λ (log : List LogOp). IsCrashImage after.base log image) (sym (take_all (length after.log) after.log (omega arith))) crash)

  -- the device holds the standing after the rounds, or still no region
  pub ends_as : Represents (contents_of after) (state_after s (first ++ rounds_in history)) ⊎ ((¬ HasRegion (contents_of tale)) × (¬ HasRegion (contents_of after)))
  ends_as = subst (λ (t : Tale). Represents (contents_of t) (state_after s (first ++ rounds_in history)) ⊎ ((¬ HasRegion (contents_of tale)) × (¬ HasRegion (contents_of t)))) after_is
      (elim left.exit.covers.end [
        | inl stands ↦ inl (subst (Represents (contents tale.base (tale.log ++ left.ops))) (sym (state_after-append s first (rounds_in history))) stands)
        | inr still ↦ inr (subst (λ (log : List LogOp). ¬ HasRegion (contents tale.base log)) (take-append-le (length tale.log) tale.log left.ops (omega arith) ∙ take_all (length tale.log) tale.log (omega arith)) still.before, still.now)
      ])

  -- the region goes on, where its rounds are legal
  pub goes_on : KeepsAll s → IsLegal s (first ++ rounds_in history) → ((image : List Line) → IsCrashImage tale.base tale.log image → IsSomeOf s first image) → Represents (contents_of after) (state_after s (first ++ rounds_in history)) → IsRegion s after (first ++ rounds_in history)
  goes_on keeps legal before holds = record {
    keeps = keeps;
    legal = legal;
    holds = holds;
    ready = (members, subst (IsReadyWith members) after_is left.exit.ready);
    images = images_behind (Unit {0}) AnyRounds (λ more lost is. tt) before;
  }
