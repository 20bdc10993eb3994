-- What holds at each point of a chain of calls, and what a crash may leave there.
use Rattle.std.proofs.Common.{◌≡◌, ◌⊎◌, List, [], ◌∷◌, ◌++◌, Option, Some, None, refl, sym, ap, subst, ◌∙◌, inl, inr}
use Rattle.std.proofs.lemmas.List.{append_assoc, append-nil}
use Rattle.std.proofs.lemmas.List.Elements.{All-nil}
use Rattle.pb_pmem.specs.declared.line.Line.{Line}
use Rattle.pb_pmem.specs.declared.log.LogOp.{LogOp}
use Rattle.pb_pmem.specs.Contents.{contents}
use Rattle.pb_pmem.specs.Crash.{IsCrashImage}
use Rattle.pb_pmem.specs.Device.{Tale}
use Rattle.pb_pmem.proofs.CrashLaws.{IsAtRest-none}
use Rattle.pb_pmem.proofs.Lines.{contents-none}
use Rattle.pb_object.specs.History.{History, IsLegal, after_round, state_after}
use Rattle.pb_object.specs.Standing.{Standing}
use Rattle.pb_layout.specs.Damage.{HasRegion}
use Rattle.pb_layout.specs.Ready.{ImageRepresents}
use Rattle.pb_layout.specs.Recovered.{Represents}
use Rattle.pb_layout.specs.ToldExits.{IsReadyWith, contents_of}
use Rattle.pb_layout.proofs.LegalHistories.{KeepsAll, numbers_stand_once}
use Rattle.pb_layout.proofs.OneRecovery.{has_region, represents_one, parts}
use Rattle.pb_layout.proofs.Readiness.{at_rest_is_ready}
use Rattle.pb_broker.specs.Chain.{Point, IsStart, IsReadyAgain, HasOneHistory}
use Rattle.pb_broker.specs.Running.{HasSome}

-- the device is ready with no region alone
abbrev pub HasNone : Tale → Type 0
HasNone tale = IsReadyWith (None ∷ []) tale

-- lines that represent the standing after the first of these rounds, of which this holds
pub record IsPrefixIn (Holds : History → Type 0) (s : Standing) (rounds : History) (image : List Line) : Type 0 where
  pub kept : History
  pub lost : History
  pub whole : rounds ≡ kept ++ lost
  pub stands : Represents image (state_after s kept)
  pub fine : Holds kept

-- .. or they have no region, where that may be
abbrev pub IsLeft : Type 0 → (History → Type 0) → Standing → History → List Line → Type 0
IsLeft MayBeBare Holds s rounds image = (MayBeBare × (¬ HasRegion image)) ⊎ IsPrefixIn Holds s rounds image

-- what a crash may leave of a region
abbrev pub AnyRounds : History → Type 0
AnyRounds rounds = Unit {0}

abbrev pub IsSomeOf : Standing → History → List Line → Type 0
IsSomeOf s rounds image = IsLeft (Unit {0}) AnyRounds s rounds image

-- the device has a region that began with s, and these rounds since: a crash leaves the standing after the first of them, or no region
pub record IsRegion (s : Standing) (tale : Tale) (rounds : History) : Type 0 where
  pub keeps : KeepsAll s
  pub legal : IsLegal s rounds
  pub holds : Represents (contents_of tale) (state_after s rounds)
  pub ready : HasSome tale
  pub images : (image : List Line) → IsCrashImage tale.base tale.log image → IsSomeOf s rounds image

pub record IsRegionPoint (s : Standing) (point : Point) : Type 0 where
  pub first : point.first ≡ Some s
  pub region : IsRegion s point.tale point.rounds

pub record IsBarePoint (point : Point) : Type 0 where
  pub first : point.first ≡ None
  pub rounds : point.rounds ≡ []
  pub ready : HasNone point.tale

abbrev pub IsSound : Point → Type 0
IsSound point = IsBarePoint point ⊎ ((s : Standing) × IsRegionPoint s point)

-- Bare devices

pub bare_contents : (tale : Tale) → HasNone tale → ¬ HasRegion (contents_of tale)
bare_contents tale ready = elim ready.holds [ inl none ↦ none | inr never ↦ absurd never ]

pub bare_images : (tale : Tale) → HasNone tale → (image : List Line) → IsCrashImage tale.base tale.log image → ¬ HasRegion image
bare_images tale ready image left =
    elim (ready.images [] (All-nil _) image (subst (λ (log : List LogOp). IsCrashImage tale.base log image) (sym (append-nil tale.log)) left)) [ inl none ↦ none | inr never ↦ absurd never ]

pub lines_without : (image : List Line) → ¬ HasRegion image → HasNone (record { base = image; log = [] })
lines_without image none =
    at_rest_is_ready image [] None (IsAtRest-none image) (subst (λ (lines : List Line). ¬ HasRegion lines) (sym (contents-none image)) none)

-- Lines that stand for a prefix

-- lines alone, of which nothing is to be done
pub lines_with : (s : Standing) (kept : History) (image : List Line) → KeepsAll s → IsLegal s kept → Represents image (state_after s kept) → IsRegion s (record { base = image; log = [] }) kept
lines_with s kept image keeps legal stands = record {
  keeps = keeps;
  legal = legal;
  holds = here;
  ready = (Some (state_after s kept) ∷ [], at_rest_is_ready image [] (Some (state_after s kept)) (IsAtRest-none image) here);
  images = λ other left. inr (record {
    kept = kept;
    lost = [];
    whole = sym (append-nil kept);
    stands = subst (λ (lines : List Line). Represents lines (state_after s kept)) (sym ((IsAtRest-none image).alone other left)) here;
    fine = tt;
  });
}
  where
    here : Represents (contents image []) (state_after s kept)
    here = subst (λ (lines : List Line). Represents lines (state_after s kept)) (sym (contents-none image)) stands

-- the first rounds of a legal history are legal
pub legal_front : (s : Standing) (kept lost : History) → IsLegal s (kept ++ lost) → IsLegal s kept
legal_front s [] lost legal = tt
legal_front s (round ∷ kept) lost legal = (legal.0, legal_front (after_round s round) kept lost legal.1)

-- legal rounds go behind legal rounds
pub legal_behind : (s : Standing) (first second : History) → IsLegal s first → IsLegal (state_after s first) second → IsLegal s (first ++ second)
legal_behind s [] second first_legal legal = legal
legal_behind s (round ∷ first) second first_legal legal = (first_legal.0, legal_behind (after_round s round) first second first_legal.1 legal)

-- a longer history has the same first rounds
pub left_of_longer : {MayBeBare : Type 0} {Holds : History → Type 0} {s : Standing} {rounds : History} {image : List Line} (more : History) → IsLeft MayBeBare Holds s rounds image → IsLeft MayBeBare Holds s (rounds ++ more) image
left_of_longer more (inl bare) = inl bare
left_of_longer more (inr prefix) = inr (record {
  kept = prefix.kept;
  lost = prefix.lost ++ more;
  whole = ap (λ (h : History). h ++ more) prefix.whole ∙ append_assoc prefix.kept prefix.lost more;
  stands = prefix.stands;
  fine = prefix.fine;
})

-- lines that represent what others did
pub left_alike : {MayBeBare : Type 0} {Holds : History → Type 0} {s : Standing} {rounds : History} (earlier image : List Line) (member : Option Standing) → ImageRepresents earlier member → ImageRepresents image member → IsLeft MayBeBare Holds s rounds earlier → IsLeft MayBeBare Holds s rounds image
left_alike earlier image None stood stands (inl bare) = inl (bare.0, stands)
left_alike earlier image (Some t) stood stands (inl bare) = absurd (bare.1 (has_region earlier t stood))
left_alike {MayBeBare} {Holds} {s} earlier image None stood stands (inr prefix) = absurd (stood (has_region earlier (state_after s prefix.kept) prefix.stands))
left_alike {MayBeBare} {Holds} {s} earlier image (Some t) stood stands (inr prefix) = inr (record {
  kept = prefix.kept;
  lost = prefix.lost;
  whole = prefix.whole;
  stands = subst (Represents image) (represents_one earlier t (state_after s prefix.kept) stood prefix.stands) stands;
  fine = prefix.fine;
})

-- What a sound point says

pub sound_history : (point : Point) → IsSound point → HasOneHistory point
sound_history point (inl bare) = inl (record { first = bare.first; rounds = bare.rounds; none = bare_contents point.tale bare.ready })
sound_history point (inr (s, is)) = inr (
  s,
  is.first,
  record {
    legal = is.region.legal;
    once = numbers_stand_once s point.rounds is.region.keeps is.region.legal;
    holds = is.region.holds;
  },
)

pub sound_ready : (point : Point) → IsSound point → IsReadyAgain point.tale
sound_ready point (inl bare) = inl (bare_contents point.tale bare.ready, bare.ready)
sound_ready point (inr (s, is)) = inr (has_region (contents_of point.tale) (state_after s point.rounds) is.region.holds, is.region.ready)

pub start_sound : (point : Point) → IsStart point → IsSound point
start_sound point start = go point.first refl
  where
    go : (first : Option Standing) → point.first ≡ first → IsSound point
    go None is = inl (record {
      first = is;
      rounds = start.none;
      ready = subst (λ (f : Option Standing). IsReadyWith (f ∷ []) point.tale) is start.ready;
    })
    go (Some s) is =
        let ready = subst (λ (f : Option Standing). IsReadyWith (f ∷ []) point.tale) is start.ready in
        let holds : Represents (contents_of point.tale) s = elim ready.holds [ inl stands ↦ stands | inr never ↦ absurd never ] in
        inr (
          s,
          record {
            first = is;
            region = subst (IsRegion s point.tale) (sym start.none) (record {
              keeps = (parts (contents_of point.tale) s holds).clients;
              legal = tt;
              holds = holds;
              ready = (Some s ∷ [], ready);
              images = λ image left. inr (record {
                kept = [];
                lost = [];
                whole = refl;
                stands = elim (ready.images [] (All-nil _) image (subst (λ (log : List LogOp). IsCrashImage point.tale.base log image) (sym (append-nil point.tale.log)) left)) [ inl stands ↦ stands | inr never ↦ absurd never ];
                fine = tt;
              });
            });
          },
        )
