-- Each cause decides.
use Rattle.std.proofs.Common.{◌≡◌, ◌⊎◌, ℕ, zero, suc, ◌-◌, ◌<◌, ◌≤◌, List, [], ◌∷◌, Option, Some, None, IfSome, length, take, drop, refl, sym, ap, subst, ◌∙◌, arith, inl, inr, ⊎_elim}
use Rattle.std.proofs.lemmas.Bool.{cases_lt}
use Rattle.std.proofs.lemmas.List.{take-append-drop}
use Rattle.pb_pmem.specs.declared.line.Line.{Line}
use Rattle.pb_pmem.specs.Device.{Device}
use Rattle.pb_object.specs.declared.kind.Kind.{Kind}
use Rattle.pb_object.specs.declared.request.Ask.{Ask}
use Rattle.pb_object.specs.Standing.{Standing}
use Rattle.pb_layout.specs.declared.header.Header.{Header}
use Rattle.pb_layout.specs.Damage.{HasRegion, IsDamagedAt, region_checks}
use Rattle.pb_layout.specs.Recovered.{Represents}
use Rattle.pb_layout.proofs.Checks.{all_one, region_sharp}
use Rattle.pb_layout.proofs.OneRecovery.{has_region, not_damaged}
use Rattle.pb_script.specs.declared.command.Command.{Command}
use Rattle.pb_script.specs.declared.command.Command.TheVariants.{Fresh, Run, Report, Replay, Drill}
use Rattle.pb_script.specs.Command.{command_of}
use Rattle.pb_script.specs.Script.{IsScript, IsRefused, request_lines}
use Rattle.pb_script.specs.Words.{lines}
use Rattle.pb_script.specs.Schedule.{HasFewEvents}
use Rattle.pb_script.proofs.Steps.{IsScript_front}
use Rattle.pb_replay.specs.Replay.{HasTooManyEvents, IsReplayed, HasBadEvent}
use Rattle.pb_replay.proofs.OneReplay.{one_bad_line, replayed_or_bad}
use Rattle.pb_broker.specs.declared.status.Status.{Status}
use Rattle.pb_broker.specs.declared.stop.Stop.{Stop}
use Rattle.pb_broker.specs.declared.stop.Stop.TheVariants.{Memory, Usage, ReadFault, Long, Many, Line as BadLine, DeviceFault, Taken, NoRegion, Damaged}
use Rattle.pb_broker.specs.Call.{Call, Says}
use Rattle.pb_broker.specs.Comes.{HasTooMany, HasFew, HasBadLine, IsScriptOf, Comes, ComesToReport, ComesToReplay, ComesToDrill}
use Rattle.pb_broker.specs.Ending.{Ending, Stopped, Served, Drilled, Reported, Replayed}
use Rattle.pb_broker.specs.Laws.{TellsScript, TellsStanding, TellsBytes, TellsSource, TellsLines, IsTooLong, TellsCause, IsFaultless, SaysStop}
use Rattle.pb_broker.specs.Texts.{ending_text, ending_status}
use Rattle.pb_broker.specs.Top.{IsAnswered}
use Rattle.pb_broker.proofs.Complete.{ComesFresh, ComesToRun, here, same_standing, has_one, is_sound, long_consumed, of_bytes}
use Rattle.pb_broker.proofs.Endings.{whole_weaker, script_is_few}
use Rattle.pb_broker.specs.Source.{IsReadWhole, IsLong}
use Rattle.pb_broker.specs.Stream.{Stream}

-- The source

too_long : {Holds : List ℕ → Type 0} {read : Stream} → TellsBytes IsTooLong read → IsReadWhole Holds read → ⊥
too_long {Holds} tells whole = omega (arith, tells.holds, (of_bytes Holds tells.told whole).0)

not_long : {Holds : List ℕ → Type 0} {read : Stream} → TellsSource Holds read → IsLong read → ⊥
not_long tells long = omega (arith, tells.holds.0, long_consumed tells.told long)

too_many : {read : Stream} → TellsSource HasTooMany read → IsReadWhole HasFew read → ⊥
too_many tells whole = omega (arith, tells.holds.1, (of_bytes HasFew tells.told whole).1)

not_many : {read : Stream} → TellsSource HasFew read → IsReadWhole HasTooMany read → ⊥
not_many tells whole = omega (arith, tells.holds.1, (of_bytes HasTooMany tells.told whole).1)

few_of : {A : List ℕ → Type 0} {read : Stream} → ((bytes : List ℕ) → A bytes → HasFew bytes) → TellsSource A read → TellsSource HasFew read
few_of so tells = record { bytes = tells.bytes; told = tells.told; holds = (tells.holds.0, so tells.bytes tells.holds.1) }

script_few : {kind : Kind} {clients : ℕ} {read : Stream} → TellsScript kind clients read → TellsSource HasFew read
script_few script = record { bytes = script.bytes; told = script.told; holds = (script.few, script.script.0) }

take_of_take : {A : Type 0} (a n : ℕ) (xs : List A) → a ≤ n → take a (take n xs) ≡ take a xs
take_of_take zero n xs most = refl
take_of_take (suc a) zero xs most = absurd (omega (arith, most))
take_of_take (suc a) (suc n) [] most = refl
take_of_take (suc a) (suc n) (x ∷ xs) most = ap (λ l. x ∷ l) (take_of_take a n xs (omega (arith, most)))

-- no lines have two first refused ones
front_is_script : {kind : Kind} {clients : ℕ} (all : List (List ℕ)) (a b : ℕ) → a < b → IsRefused kind clients all a → IsRefused kind clients all b → ⊥
front_is_script {kind} {clients} all a b less first second =
    let longer = take (b - 1) all in
    let asks = second.before.0 in
    let same : take a longer ≡ take a all = take_of_take a (b - 1) all (omega (arith, less)) in
    let some = take (length (request_lines (take a longer))) asks in
    first.none some (subst (λ (ls : List (List ℕ)). IsScript kind clients ls some) same
    (IsScript_front kind clients (take a longer) (drop a longer) asks (subst (λ (ls : List (List ℕ)). IsScript kind clients ls asks) (sym (take-append-drop a longer)) second.before.1)))

one_refused : {kind : Kind} {clients : ℕ} (all : List (List ℕ)) (a b : ℕ) → IsRefused kind clients all a → IsRefused kind clients all b → a ≡ b
one_refused all a b first second =
    ⊎_elim (λ (less : a < b). absurd (front_is_script all a b less first second)) (λ (most : b ≤ a). ⊎_elim (λ (less : b < a). absurd (front_is_script all b a less second first)) (λ (least : a ≤ b). omega (arith, most, least)) (cases_lt b a)) (cases_lt a b)

is_no_script : {kind : Kind} {clients number : ℕ} {asks : List Ask} (bytes : List ℕ) → IsScriptOf kind clients asks bytes → HasBadLine kind clients number bytes → ⊥
is_no_script {kind} {clients} {number} {asks} bytes script bad =
    let all = lines bytes in
    bad.1.none _ (IsScript_front kind clients (take number all) (drop number all) asks (subst (λ (ls : List (List ℕ)). IsScript kind clients ls asks) (sym (take-append-drop number all)) script.1))

not_bad : {kind : Kind} {clients number : ℕ} {read : Stream} → TellsScript kind clients read → IsReadWhole (HasBadLine kind clients number) read → ⊥
not_bad {kind} {clients} {number} script whole = is_no_script script.bytes script.script (of_bytes (HasBadLine kind clients number) script.told whole).1

no_script : {kind : Kind} {clients number : ℕ} {asks : List Ask} {read : Stream} → TellsSource (HasBadLine kind clients number) read → IsReadWhole (IsScriptOf kind clients asks) read → ⊥
no_script {kind} {clients} {number} {asks} tells whole = is_no_script tells.bytes (of_bytes (IsScriptOf kind clients asks) tells.told whole).1 tells.holds.1

same_line : {kind : Kind} {clients a b : ℕ} {read : Stream} → TellsSource (HasBadLine kind clients a) read → IsReadWhole (HasBadLine kind clients b) read → b ≡ a
same_line {kind} {clients} {a} {b} tells whole = one_refused (lines tells.bytes) b a (of_bytes (HasBadLine kind clients b) tells.told whole).1.1 tells.holds.1.1

-- The device

told_lines : (Holds : List Line → Type 0) (Says : List Line → Type 0) {device : Device} (tells : TellsLines Holds device) → IfSome device.now Says → Says tells.image
told_lines Holds Says {device} tells says = here Says device.now tells.image tells.told says

-- A stop is the one with the cause, or want of memory

abbrev Decides : Ending → Stop → Type 0
Decides ending stop = (ending ≡ Stopped stop) ⊎ (ending ≡ Stopped Memory)

bad_is_few : {kind : Kind} {clients number : ℕ} {read : Stream} → IsReadWhole (HasBadLine kind clients number) read → IsReadWhole HasFew read
bad_is_few whole = whole_weaker (λ bytes is. is.0) whole

one_damage : (image : List Line) (a b : ℕ) → IsDamagedAt image a → IsDamagedAt image b → a ≡ b
one_damage image a b first second = all_one (region_checks image) (region_sharp image) a b first.first second.first

fresh_long : (head : Header) (call : Call) (out : Stream) (ending : Ending) → TellsBytes IsTooLong call.read → IsFaultless call out → ComesFresh head call ending → Decides ending Long
fresh_long head call out (Stopped Memory) cause calm comes = inr refl
fresh_long head call out (Stopped Usage) cause calm comes = absurd comes.0
fresh_long head call out (Stopped ReadFault) cause calm comes = absurd (calm.reads comes.0.1)
fresh_long head call out (Stopped Long) cause calm comes = inl refl
fresh_long head call out (Stopped Many) cause calm comes = absurd (too_long cause comes.0)
fresh_long head call out (Stopped (BadLine n)) cause calm comes = absurd (too_long cause comes.0)
fresh_long head call out (Stopped DeviceFault) cause calm comes = absurd (calm.device comes.1.stopped.rose)
fresh_long head call out (Stopped Taken) cause calm comes = absurd (too_long cause comes.0.1)
fresh_long head call out (Stopped NoRegion) cause calm comes = absurd comes.0
fresh_long head call out (Stopped (Damaged l)) cause calm comes = absurd comes.0
fresh_long head call out (Served asks list) cause calm comes = absurd (too_long cause comes.script)
fresh_long head call out (Drilled asks list versions) cause calm comes = absurd comes
fresh_long head call out (Reported t) cause calm comes = absurd comes
fresh_long head call out (Replayed answers t) cause calm comes = absurd comes

fresh_many : (head : Header) (call : Call) (out : Stream) (ending : Ending) → TellsSource HasTooMany call.read → IsFaultless call out → ComesFresh head call ending → Decides ending Many
fresh_many head call out (Stopped Memory) cause calm comes = inr refl
fresh_many head call out (Stopped Usage) cause calm comes = absurd comes.0
fresh_many head call out (Stopped ReadFault) cause calm comes = absurd (calm.reads comes.0.1)
fresh_many head call out (Stopped Long) cause calm comes = absurd (not_long cause comes.0)
fresh_many head call out (Stopped Many) cause calm comes = inl refl
fresh_many head call out (Stopped (BadLine n)) cause calm comes = absurd (too_many cause (bad_is_few comes.0))
fresh_many head call out (Stopped DeviceFault) cause calm comes = absurd (calm.device comes.1.stopped.rose)
fresh_many head call out (Stopped Taken) cause calm comes = absurd (too_many cause (script_is_few comes.0.1))
fresh_many head call out (Stopped NoRegion) cause calm comes = absurd comes.0
fresh_many head call out (Stopped (Damaged l)) cause calm comes = absurd comes.0
fresh_many head call out (Served asks list) cause calm comes = absurd (too_many cause (script_is_few comes.script))
fresh_many head call out (Drilled asks list versions) cause calm comes = absurd comes
fresh_many head call out (Reported t) cause calm comes = absurd comes
fresh_many head call out (Replayed answers t) cause calm comes = absurd comes

fresh_bad : (head : Header) (call : Call) (out : Stream) (ending : Ending) (number : ℕ) → TellsSource (HasBadLine head.kind head.clients number) call.read → IsFaultless call out → ComesFresh head call ending → Decides ending (BadLine number)
fresh_bad head call out (Stopped Memory) number cause calm comes = inr refl
fresh_bad head call out (Stopped Usage) number cause calm comes = absurd comes.0
fresh_bad head call out (Stopped ReadFault) number cause calm comes = absurd (calm.reads comes.0.1)
fresh_bad head call out (Stopped Long) number cause calm comes = absurd (not_long cause comes.0)
fresh_bad head call out (Stopped Many) number cause calm comes = absurd (not_many (few_of (λ bytes is. is.0) cause) comes.0)
fresh_bad head call out (Stopped (BadLine n)) number cause calm comes = inl (ap (λ k. Stopped (BadLine k)) (same_line cause comes.0))
fresh_bad head call out (Stopped DeviceFault) number cause calm comes = absurd (calm.device comes.1.stopped.rose)
fresh_bad head call out (Stopped Taken) number cause calm comes = absurd (no_script cause comes.0.1)
fresh_bad head call out (Stopped NoRegion) number cause calm comes = absurd comes.0
fresh_bad head call out (Stopped (Damaged l)) number cause calm comes = absurd comes.0
fresh_bad head call out (Served asks list) number cause calm comes = absurd (no_script cause comes.script)
fresh_bad head call out (Drilled asks list versions) number cause calm comes = absurd comes
fresh_bad head call out (Reported t) number cause calm comes = absurd comes
fresh_bad head call out (Replayed answers t) number cause calm comes = absurd comes

fresh_taken : (head : Header) (call : Call) (out : Stream) (ending : Ending) → TellsScript head.kind head.clients call.read × TellsLines HasRegion call.before → IsFaultless call out → ComesFresh head call ending → Decides ending Taken
fresh_taken head call out (Stopped Memory) cause calm comes = inr refl
fresh_taken head call out (Stopped Usage) cause calm comes = absurd comes.0
fresh_taken head call out (Stopped ReadFault) cause calm comes = absurd (calm.reads comes.0.1)
fresh_taken head call out (Stopped Long) cause calm comes = absurd (not_long (script_few cause.0) comes.0)
fresh_taken head call out (Stopped Many) cause calm comes = absurd (not_many (script_few cause.0) comes.0)
fresh_taken head call out (Stopped (BadLine n)) cause calm comes = absurd (not_bad cause.0 comes.0)
fresh_taken head call out (Stopped DeviceFault) cause calm comes = absurd (calm.device comes.1.stopped.rose)
fresh_taken head call out (Stopped Taken) cause calm comes = inl refl
fresh_taken head call out (Stopped NoRegion) cause calm comes = absurd comes.0
fresh_taken head call out (Stopped (Damaged l)) cause calm comes = absurd comes.0
fresh_taken head call out (Served asks list) cause calm comes = absurd (told_lines HasRegion (λ image. ¬ HasRegion image) cause.1 comes.made.none cause.1.holds)
fresh_taken head call out (Drilled asks list versions) cause calm comes = absurd comes
fresh_taken head call out (Reported t) cause calm comes = absurd comes
fresh_taken head call out (Replayed answers t) cause calm comes = absurd comes

run_long : (call : Call) (out : Stream) (ending : Ending) → TellsBytes IsTooLong call.read → IsFaultless call out → ComesToRun call ending → Decides ending Long
run_long call out (Stopped Memory) cause calm comes = inr refl
run_long call out (Stopped Usage) cause calm comes = absurd comes.0
run_long call out (Stopped ReadFault) cause calm comes = absurd (calm.reads comes.0.1)
run_long call out (Stopped Long) cause calm comes = inl refl
run_long call out (Stopped Many) cause calm comes = absurd (too_long cause comes.0)
run_long call out (Stopped (BadLine n)) cause calm comes = absurd (too_long cause comes.2)
run_long call out (Stopped DeviceFault) cause calm comes = absurd (calm.device comes.rose)
run_long call out (Stopped Taken) cause calm comes = absurd comes.0
run_long call out (Stopped NoRegion) cause calm comes = absurd (too_long cause comes.0)
run_long call out (Stopped (Damaged l)) cause calm comes = absurd (too_long cause comes.0)
run_long call out (Served asks list) cause calm comes = absurd (too_long cause comes.script)
run_long call out (Drilled asks list versions) cause calm comes = absurd comes
run_long call out (Reported t) cause calm comes = absurd comes
run_long call out (Replayed answers t) cause calm comes = absurd comes

run_many : (call : Call) (out : Stream) (ending : Ending) → TellsSource HasTooMany call.read → IsFaultless call out → ComesToRun call ending → Decides ending Many
run_many call out (Stopped Memory) cause calm comes = inr refl
run_many call out (Stopped Usage) cause calm comes = absurd comes.0
run_many call out (Stopped ReadFault) cause calm comes = absurd (calm.reads comes.0.1)
run_many call out (Stopped Long) cause calm comes = absurd (not_long cause comes.0)
run_many call out (Stopped Many) cause calm comes = inl refl
run_many call out (Stopped (BadLine n)) cause calm comes = absurd (too_many cause (bad_is_few comes.2))
run_many call out (Stopped DeviceFault) cause calm comes = absurd (calm.device comes.rose)
run_many call out (Stopped Taken) cause calm comes = absurd comes.0
run_many call out (Stopped NoRegion) cause calm comes = absurd (too_many cause comes.0)
run_many call out (Stopped (Damaged l)) cause calm comes = absurd (too_many cause comes.0)
run_many call out (Served asks list) cause calm comes = absurd (too_many cause (script_is_few comes.script))
run_many call out (Drilled asks list versions) cause calm comes = absurd comes
run_many call out (Reported t) cause calm comes = absurd comes
run_many call out (Replayed answers t) cause calm comes = absurd comes

run_none : (call : Call) (out : Stream) (ending : Ending) → TellsSource HasFew call.read × TellsLines (λ image. ¬ HasRegion image) call.before → IsFaultless call out → ComesToRun call ending → Decides ending NoRegion
run_none call out (Stopped Memory) cause calm comes = inr refl
run_none call out (Stopped Usage) cause calm comes = absurd comes.0
run_none call out (Stopped ReadFault) cause calm comes = absurd (calm.reads comes.0.1)
run_none call out (Stopped Long) cause calm comes = absurd (not_long cause.0 comes.0)
run_none call out (Stopped Many) cause calm comes = absurd (not_many cause.0 comes.0)
run_none call out (Stopped (BadLine n)) cause calm comes = absurd (cause.1.holds (has_region cause.1.image comes.0 (told_lines _ (λ image. Represents image comes.0) cause.1 comes.1)))
run_none call out (Stopped DeviceFault) cause calm comes = absurd (calm.device comes.rose)
run_none call out (Stopped Taken) cause calm comes = absurd comes.0
run_none call out (Stopped NoRegion) cause calm comes = inl refl
run_none call out (Stopped (Damaged l)) cause calm comes = absurd (cause.1.holds (told_lines _ (λ image. IsDamagedAt image l) cause.1 comes.1).region)
run_none call out (Served asks list) cause calm comes = absurd (cause.1.holds (has_region cause.1.image comes.standing (told_lines _ (λ image. Represents image comes.standing) cause.1 comes.stands)))
run_none call out (Drilled asks list versions) cause calm comes = absurd comes
run_none call out (Reported t) cause calm comes = absurd comes
run_none call out (Replayed answers t) cause calm comes = absurd comes

run_damaged : (call : Call) (out : Stream) (ending : Ending) (number : ℕ) → TellsSource HasFew call.read × TellsLines (λ image. IsDamagedAt image number) call.before → IsFaultless call out → ComesToRun call ending → Decides ending (Damaged number)
run_damaged call out (Stopped Memory) number cause calm comes = inr refl
run_damaged call out (Stopped Usage) number cause calm comes = absurd comes.0
run_damaged call out (Stopped ReadFault) number cause calm comes = absurd (calm.reads comes.0.1)
run_damaged call out (Stopped Long) number cause calm comes = absurd (not_long cause.0 comes.0)
run_damaged call out (Stopped Many) number cause calm comes = absurd (not_many cause.0 comes.0)
run_damaged call out (Stopped (BadLine n)) number cause calm comes = absurd (not_damaged cause.1.image comes.0 number (told_lines _ (λ image. Represents image comes.0) cause.1 comes.1) cause.1.holds)
run_damaged call out (Stopped DeviceFault) number cause calm comes = absurd (calm.device comes.rose)
run_damaged call out (Stopped Taken) number cause calm comes = absurd comes.0
run_damaged call out (Stopped NoRegion) number cause calm comes = absurd (told_lines _ (λ image. ¬ HasRegion image) cause.1 comes.1 cause.1.holds.region)
run_damaged call out (Stopped (Damaged l)) number cause calm comes = inl (ap (λ k. Stopped (Damaged k)) (one_damage cause.1.image l number (told_lines _ (λ image. IsDamagedAt image l) cause.1 comes.1) cause.1.holds))
run_damaged call out (Served asks list) number cause calm comes = absurd (not_damaged cause.1.image comes.standing number (told_lines _ (λ image. Represents image comes.standing) cause.1 comes.stands) cause.1.holds)
run_damaged call out (Drilled asks list versions) number cause calm comes = absurd comes
run_damaged call out (Reported t) number cause calm comes = absurd comes
run_damaged call out (Replayed answers t) number cause calm comes = absurd comes

run_bad : (call : Call) (out : Stream) (ending : Ending) (number : ℕ) (s : Standing) → TellsStanding s call.before → TellsSource (HasBadLine s.kind s.clients number) call.read → IsFaultless call out → ComesToRun call ending → Decides ending (BadLine number)
run_bad call out (Stopped Memory) number s tells cause calm comes = inr refl
run_bad call out (Stopped Usage) number s tells cause calm comes = absurd comes.0
run_bad call out (Stopped ReadFault) number s tells cause calm comes = absurd (calm.reads comes.0.1)
run_bad call out (Stopped Long) number s tells cause calm comes = absurd (not_long cause comes.0)
run_bad call out (Stopped Many) number s tells cause calm comes = absurd (not_many (few_of (λ bytes is. is.0) cause) comes.0)
run_bad call out (Stopped (BadLine n)) number s tells cause calm comes = inl (ap (λ k. Stopped (BadLine k)) (same_line cause (subst (λ (u : Standing). IsReadWhole (HasBadLine u.kind u.clients n) call.read) (sym (same_standing tells comes.1)) comes.2)))
run_bad call out (Stopped DeviceFault) number s tells cause calm comes = absurd (calm.device comes.rose)
run_bad call out (Stopped Taken) number s tells cause calm comes = absurd comes.0
run_bad call out (Stopped NoRegion) number s tells cause calm comes = absurd (has_one tells comes.1)
run_bad call out (Stopped (Damaged l)) number s tells cause calm comes = absurd (is_sound l tells comes.1)
run_bad call out (Served asks list) number s tells cause calm comes = absurd (no_script cause (subst (λ (u : Standing). IsReadWhole (IsScriptOf u.kind u.clients asks) call.read) (sym (same_standing tells comes.stands)) comes.script))
run_bad call out (Drilled asks list versions) number s tells cause calm comes = absurd comes
run_bad call out (Reported t) number s tells cause calm comes = absurd comes
run_bad call out (Replayed answers t) number s tells cause calm comes = absurd comes

report_none : (call : Call) (out : Stream) (ending : Ending) → TellsLines (λ image. ¬ HasRegion image) call.before → IsFaultless call out → ComesToReport call.before call.after ending → Decides ending NoRegion
report_none call out (Stopped Memory) cause calm comes = inr refl
report_none call out (Stopped Usage) cause calm comes = absurd comes
report_none call out (Stopped ReadFault) cause calm comes = absurd comes
report_none call out (Stopped Long) cause calm comes = absurd comes
report_none call out (Stopped Many) cause calm comes = absurd comes
report_none call out (Stopped (BadLine n)) cause calm comes = absurd comes
report_none call out (Stopped DeviceFault) cause calm comes = absurd (calm.device comes.0)
report_none call out (Stopped Taken) cause calm comes = absurd comes
report_none call out (Stopped NoRegion) cause calm comes = inl refl
report_none call out (Stopped (Damaged l)) cause calm comes = absurd (cause.holds (told_lines _ (λ image. IsDamagedAt image l) cause comes.0).region)
report_none call out (Served asks list) cause calm comes = absurd comes
report_none call out (Drilled asks list versions) cause calm comes = absurd comes
report_none call out (Reported t) cause calm comes = absurd (cause.holds (has_region cause.image t (told_lines _ (λ image. Represents image t) cause comes.0)))
report_none call out (Replayed answers t) cause calm comes = absurd comes

report_damaged : (call : Call) (out : Stream) (ending : Ending) (number : ℕ) → TellsLines (λ image. IsDamagedAt image number) call.before → IsFaultless call out → ComesToReport call.before call.after ending → Decides ending (Damaged number)
report_damaged call out (Stopped Memory) number cause calm comes = inr refl
report_damaged call out (Stopped Usage) number cause calm comes = absurd comes
report_damaged call out (Stopped ReadFault) number cause calm comes = absurd comes
report_damaged call out (Stopped Long) number cause calm comes = absurd comes
report_damaged call out (Stopped Many) number cause calm comes = absurd comes
report_damaged call out (Stopped (BadLine n)) number cause calm comes = absurd comes
report_damaged call out (Stopped DeviceFault) number cause calm comes = absurd (calm.device comes.0)
report_damaged call out (Stopped Taken) number cause calm comes = absurd comes
report_damaged call out (Stopped NoRegion) number cause calm comes = absurd (told_lines _ (λ image. ¬ HasRegion image) cause comes.0 cause.holds.region)
report_damaged call out (Stopped (Damaged l)) number cause calm comes = inl (ap (λ k. Stopped (Damaged k)) (one_damage cause.image l number (told_lines _ (λ image. IsDamagedAt image l) cause comes.0) cause.holds))
report_damaged call out (Served asks list) number cause calm comes = absurd comes
report_damaged call out (Drilled asks list versions) number cause calm comes = absurd comes
report_damaged call out (Reported t) number cause calm comes = absurd (not_damaged cause.image t number (told_lines _ (λ image. Represents image t) cause comes.0) cause.holds)
report_damaged call out (Replayed answers t) number cause calm comes = absurd comes

too_many_events : {read : Stream} → TellsSource HasTooManyEvents read → IsReadWhole (λ bytes. HasFewEvents (lines bytes)) read → ⊥
too_many_events tells whole = omega (arith, tells.holds.1, (of_bytes (λ bytes. HasFewEvents (lines bytes)) tells.told whole).1)

replay_long : (head : Header) (call : Call) (out : Stream) (ending : Ending) → TellsBytes IsTooLong call.read → IsFaultless call out → ComesToReplay head call.read ending → Decides ending Long
replay_long head call out (Stopped Memory) cause calm comes = inr refl
replay_long head call out (Stopped Usage) cause calm comes = absurd comes
replay_long head call out (Stopped ReadFault) cause calm comes = absurd (calm.reads comes.1)
replay_long head call out (Stopped Long) cause calm comes = inl refl
replay_long head call out (Stopped Many) cause calm comes = absurd (too_long cause comes)
replay_long head call out (Stopped (BadLine n)) cause calm comes = absurd (too_long cause comes)
replay_long head call out (Stopped DeviceFault) cause calm comes = absurd comes
replay_long head call out (Stopped Taken) cause calm comes = absurd comes
replay_long head call out (Stopped NoRegion) cause calm comes = absurd comes
replay_long head call out (Stopped (Damaged l)) cause calm comes = absurd comes
replay_long head call out (Served asks list) cause calm comes = absurd comes
replay_long head call out (Drilled asks list versions) cause calm comes = absurd comes
replay_long head call out (Reported t) cause calm comes = absurd comes
replay_long head call out (Replayed answers t) cause calm comes = absurd (too_long cause comes)

replay_many : (head : Header) (call : Call) (out : Stream) (ending : Ending) → TellsSource HasTooManyEvents call.read → IsFaultless call out → ComesToReplay head call.read ending → Decides ending Many
replay_many head call out (Stopped Memory) cause calm comes = inr refl
replay_many head call out (Stopped Usage) cause calm comes = absurd comes
replay_many head call out (Stopped ReadFault) cause calm comes = absurd (calm.reads comes.1)
replay_many head call out (Stopped Long) cause calm comes = absurd (not_long cause comes)
replay_many head call out (Stopped Many) cause calm comes = inl refl
replay_many head call out (Stopped (BadLine n)) cause calm comes = absurd (too_many_events cause (whole_weaker (λ bytes is. is.0) comes))
replay_many head call out (Stopped DeviceFault) cause calm comes = absurd comes
replay_many head call out (Stopped Taken) cause calm comes = absurd comes
replay_many head call out (Stopped NoRegion) cause calm comes = absurd comes
replay_many head call out (Stopped (Damaged l)) cause calm comes = absurd comes
replay_many head call out (Served asks list) cause calm comes = absurd comes
replay_many head call out (Drilled asks list versions) cause calm comes = absurd comes
replay_many head call out (Reported t) cause calm comes = absurd comes
replay_many head call out (Replayed answers t) cause calm comes = absurd (too_many_events cause (whole_weaker (λ bytes is. is.few) comes))

drill_taken : (seed clients count : ℕ) (call : Call) (out : Stream) (ending : Ending) → TellsLines HasRegion call.before → IsFaultless call out → ComesToDrill seed clients count call.before call.after ending → Decides ending Taken
drill_taken seed clients count call out (Stopped Memory) cause calm comes = inr refl
drill_taken seed clients count call out (Stopped Usage) cause calm comes = absurd comes
drill_taken seed clients count call out (Stopped ReadFault) cause calm comes = absurd comes
drill_taken seed clients count call out (Stopped Long) cause calm comes = absurd comes
drill_taken seed clients count call out (Stopped Many) cause calm comes = absurd comes
drill_taken seed clients count call out (Stopped (BadLine n)) cause calm comes = absurd comes
drill_taken seed clients count call out (Stopped DeviceFault) cause calm comes = absurd (calm.device comes.stopped.rose)
drill_taken seed clients count call out (Stopped Taken) cause calm comes = inl refl
drill_taken seed clients count call out (Stopped NoRegion) cause calm comes = absurd comes
drill_taken seed clients count call out (Stopped (Damaged l)) cause calm comes = absurd comes
drill_taken seed clients count call out (Served asks list) cause calm comes = absurd comes
drill_taken seed clients count call out (Drilled asks list versions) cause calm comes = absurd (told_lines HasRegion (λ image. ¬ HasRegion image) cause comes.made.none cause.holds)
drill_taken seed clients count call out (Reported t) cause calm comes = absurd comes
drill_taken seed clients count call out (Replayed answers t) cause calm comes = absurd comes

replay_bad : (head : Header) (call : Call) (out : Stream) (ending : Ending) (number : ℕ) → TellsSource (HasBadEvent head number) call.read → IsFaultless call out → ComesToReplay head call.read ending → Decides ending (BadLine number)
replay_bad head call out (Stopped Memory) number cause calm comes = inr refl
replay_bad head call out (Stopped Usage) number cause calm comes = absurd comes
replay_bad head call out (Stopped ReadFault) number cause calm comes = absurd (calm.reads comes.1)
replay_bad head call out (Stopped Long) number cause calm comes = absurd (not_long cause comes)
replay_bad head call out (Stopped Many) number cause calm comes = absurd (omega (arith, cause.holds.1.0, (of_bytes HasTooManyEvents cause.told comes).1))
replay_bad head call out (Stopped (BadLine n)) number cause calm comes =
    inl (ap (λ k. Stopped (BadLine k)) (one_bad_line head cause.bytes n number (of_bytes (HasBadEvent head n) cause.told comes).1 cause.holds.1))
replay_bad head call out (Stopped DeviceFault) number cause calm comes = absurd comes
replay_bad head call out (Stopped Taken) number cause calm comes = absurd comes
replay_bad head call out (Stopped NoRegion) number cause calm comes = absurd comes
replay_bad head call out (Stopped (Damaged l)) number cause calm comes = absurd comes
replay_bad head call out (Served asks list) number cause calm comes = absurd comes
replay_bad head call out (Drilled asks list versions) number cause calm comes = absurd comes
replay_bad head call out (Reported t) number cause calm comes = absurd comes
replay_bad head call out (Replayed answers t) number cause calm comes =
    absurd (replayed_or_bad head cause.bytes answers t number (of_bytes (λ bytes. IsReplayed head bytes answers t) cause.told comes).1 cause.holds.1)

by_cause : (command : Option Command) (call : Call) (out : Stream) (ending : Ending) (stop : Stop) → TellsCause command call stop → IsFaultless call out → Comes command call ending → Decides ending stop
by_cause None call out ending Memory cause calm comes = absurd cause
by_cause None call out ending Usage cause calm comes = inl comes.0
by_cause None call out ending ReadFault cause calm comes = absurd cause
by_cause None call out ending Long cause calm comes = absurd cause
by_cause None call out ending Many cause calm comes = absurd cause
by_cause None call out ending (BadLine number) cause calm comes = absurd cause
by_cause None call out ending DeviceFault cause calm comes = absurd cause
by_cause None call out ending Taken cause calm comes = absurd cause
by_cause None call out ending NoRegion cause calm comes = absurd cause
by_cause None call out ending (Damaged number) cause calm comes = absurd cause
by_cause (Some (Fresh kind clients size)) call out ending Memory cause calm comes = absurd cause
by_cause (Some (Fresh kind clients size)) call out ending Usage cause calm comes = absurd cause
by_cause (Some (Fresh kind clients size)) call out ending ReadFault cause calm comes = absurd cause
by_cause (Some (Fresh kind clients size)) call out ending Long cause calm comes = fresh_long (record { kind = kind; clients = clients; size = size }) call out ending cause calm comes
by_cause (Some (Fresh kind clients size)) call out ending Many cause calm comes = fresh_many (record { kind = kind; clients = clients; size = size }) call out ending cause calm comes
by_cause (Some (Fresh kind clients size)) call out ending (BadLine number) cause calm comes = fresh_bad (record { kind = kind; clients = clients; size = size }) call out ending number cause calm comes
by_cause (Some (Fresh kind clients size)) call out ending DeviceFault cause calm comes = absurd cause
by_cause (Some (Fresh kind clients size)) call out ending Taken cause calm comes = fresh_taken (record { kind = kind; clients = clients; size = size }) call out ending cause calm comes
by_cause (Some (Fresh kind clients size)) call out ending NoRegion cause calm comes = absurd cause
by_cause (Some (Fresh kind clients size)) call out ending (Damaged number) cause calm comes = absurd cause
by_cause (Some Run) call out ending Memory cause calm comes = absurd cause
by_cause (Some Run) call out ending Usage cause calm comes = absurd cause
by_cause (Some Run) call out ending ReadFault cause calm comes = absurd cause
by_cause (Some Run) call out ending Long cause calm comes = run_long call out ending cause calm comes
by_cause (Some Run) call out ending Many cause calm comes = run_many call out ending cause calm comes
by_cause (Some Run) call out ending (BadLine number) cause calm comes = run_bad call out ending number cause.0 cause.1 cause.2 calm comes
by_cause (Some Run) call out ending DeviceFault cause calm comes = absurd cause
by_cause (Some Run) call out ending Taken cause calm comes = absurd cause
by_cause (Some Run) call out ending NoRegion cause calm comes = run_none call out ending cause calm comes
by_cause (Some Run) call out ending (Damaged number) cause calm comes = run_damaged call out ending number cause calm comes
by_cause (Some Report) call out ending Memory cause calm comes = absurd cause
by_cause (Some Report) call out ending Usage cause calm comes = absurd cause
by_cause (Some Report) call out ending ReadFault cause calm comes = absurd cause
by_cause (Some Report) call out ending Long cause calm comes = absurd cause
by_cause (Some Report) call out ending Many cause calm comes = absurd cause
by_cause (Some Report) call out ending (BadLine number) cause calm comes = absurd cause
by_cause (Some Report) call out ending DeviceFault cause calm comes = absurd cause
by_cause (Some Report) call out ending Taken cause calm comes = absurd cause
by_cause (Some Report) call out ending NoRegion cause calm comes = report_none call out ending cause calm comes.1
by_cause (Some Report) call out ending (Damaged number) cause calm comes = report_damaged call out ending number cause calm comes.1
by_cause (Some (Replay kind clients size)) call out ending Memory cause calm comes = absurd cause
by_cause (Some (Replay kind clients size)) call out ending Usage cause calm comes = absurd cause
by_cause (Some (Replay kind clients size)) call out ending ReadFault cause calm comes = absurd cause
by_cause (Some (Replay kind clients size)) call out ending Long cause calm comes = replay_long (record { kind = kind; clients = clients; size = size }) call out ending cause calm comes.0
by_cause (Some (Replay kind clients size)) call out ending Many cause calm comes = replay_many (record { kind = kind; clients = clients; size = size }) call out ending cause calm comes.0
by_cause (Some (Replay kind clients size)) call out ending (BadLine number) cause calm comes = replay_bad (record { kind = kind; clients = clients; size = size }) call out ending number cause calm comes.0
by_cause (Some (Replay kind clients size)) call out ending DeviceFault cause calm comes = absurd cause
by_cause (Some (Replay kind clients size)) call out ending Taken cause calm comes = absurd cause
by_cause (Some (Replay kind clients size)) call out ending NoRegion cause calm comes = absurd cause
by_cause (Some (Replay kind clients size)) call out ending (Damaged number) cause calm comes = absurd cause
by_cause (Some (Drill seed clients count)) call out ending Memory cause calm comes = absurd cause
by_cause (Some (Drill seed clients count)) call out ending Usage cause calm comes = absurd cause
by_cause (Some (Drill seed clients count)) call out ending ReadFault cause calm comes = absurd cause
by_cause (Some (Drill seed clients count)) call out ending Long cause calm comes = absurd cause
by_cause (Some (Drill seed clients count)) call out ending Many cause calm comes = absurd cause
by_cause (Some (Drill seed clients count)) call out ending (BadLine number) cause calm comes = absurd cause
by_cause (Some (Drill seed clients count)) call out ending DeviceFault cause calm comes = absurd cause
by_cause (Some (Drill seed clients count)) call out ending Taken cause calm comes = drill_taken seed clients count call out ending cause calm comes.1
by_cause (Some (Drill seed clients count)) call out ending NoRegion cause calm comes = absurd cause
by_cause (Some (Drill seed clients count)) call out ending (Damaged number) cause calm comes = absurd cause

says_so : (out : Stream) (ending : Ending) (stop : Stop) (status : Status) → Says out (ending_text ending) (ending_status ending) status → Decides ending stop → SaysStop out stop status
says_so out ending stop status said (inl is) = inl (subst (λ (e : Ending). Says out (ending_text e) (ending_status e) status) is said)
says_so out ending stop status said (inr is) = inr (said.is ∙ ap ending_status is)

pub cause_decides : (words : List (List ℕ)) (call : Call) (out : Stream) (stop : Stop) (status : Status) → IsAnswered words call out status → TellsCause (command_of words) call stop → IsFaultless call out → SaysStop out stop status
cause_decides words call out stop status answered cause calm = elim answered.said [
  | inl said ↦ says_so out answered.ending stop status said (by_cause (command_of words) call out answered.ending stop cause calm answered.comes)
  | inr some ↦ absurd (calm.writes some.rose)
]
