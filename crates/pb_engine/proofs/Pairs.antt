-- An engine over a pair: when it is sure, and what is in doubt.
use Rattle.std.proofs.Common.{◌≡◌, ◌≢◌, Bool, true, false, Option, Some, List, [], ◌∷◌, refl, ap}
use Rattle.pb_object.specs.declared.request.Ask.{Ask}
use Rattle.pb_object.specs.History.{after_round}
use Rattle.pb_object.specs.Standing.{Standing}
use Rattle.pb_pair.specs.declared.known.Known.{Known}
use Rattle.pb_pair.specs.declared.known.Known.TheVariants.{Sure, Opened, Failed}
use Rattle.pb_pair.specs.View.{SideView, forgotten}
use Rattle.pb_engine.specs.Asks.{asked_round}
use Rattle.pb_engine.specs.Pairs.{is_sure, known_records, doubt_of}
use Rattle.pb_engine.specs.View.{FailedRound, nothing_known, settled_standing, was_called}

pub known_sure : (known : Known) → is_sure known ≡ true → known ≡ Sure
known_sure Sure is = refl
known_sure Opened is = absurd (cc (is))
known_sure Failed is = absurd (cc (is))

pub known_unsure : (known : Known) → is_sure known ≡ false → known ≢ Sure
known_unsure Sure is sure = absurd (cc (is))
known_unsure Opened is sure = absurd (cc (sure))
known_unsure Failed is sure = absurd (cc (sure))

-- what is known of an unsure pair's records
pub known_none : (part : SideView) → part ≡ forgotten part → known_records part ≡ nothing_known
known_none part same = ap known_records same

-- The round in doubt

pub some_doubt : (s : Standing) (asks : List Ask) (called : Bool) → asks ≢ [] → doubt_of s asks called ≡ Some (record { round = asked_round s asks; called = called })
some_doubt s [] called some = absurd (some refl)
some_doubt s (ask ∷ asks) called some = refl

pub called_is : (s : Standing) (asks : List Ask) (called : Bool) → asks ≢ [] → was_called (doubt_of s asks called) ≡ called
called_is s asks called some = ap was_called (some_doubt s asks called some)

-- it is that of the requests
pub round_as : (s : Standing) (asks : List Ask) (called : Bool) (failed : FailedRound) → doubt_of s asks called ≡ Some failed → (asked_round s asks ≡ failed.round) × (called ≡ failed.called)
round_as s [] called failed is = absurd (cc (is))
round_as s (ask ∷ asks) called failed is = (ap (λ (f : FailedRound). f.round) (the _ failed is), ap (λ (f : FailedRound). f.called) (the _ failed is))
  where
    the : (a b : FailedRound) → ◌≡◌ {A = Option FailedRound} (Some a) (Some b) → a ≡ b
    the a b e = cc

-- the standing that settling is to leave
pub uncalled_standing : (s : Standing) (asks : List Ask) → settled_standing s (doubt_of s asks false) ≡ s
uncalled_standing s [] = refl
uncalled_standing s (ask ∷ asks) = refl

pub called_standing : (s : Standing) (asks : List Ask) → asks ≢ [] → settled_standing s (doubt_of s asks true) ≡ after_round s (asked_round s asks)
called_standing s [] some = absurd (some refl)
called_standing s (ask ∷ asks) some = refl
