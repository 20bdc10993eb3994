use Rattle.std.proofs.Common.{rules, ◌≡◌, ℕ, ◌++◌, true, false, refl, subst, ◌∙◌, arith}
use Rattle.std.specs.Prelude.{replicate}
use Rattle.pb_replay.proofs.Making.{MadeSoFar, none_repeated, one_repeated, made_by, stuck_by}
use Rattle.pb_replay.proofs.playing.Playing.make_all.Goals as goal

pub loop-init : goal.loop-init
loop-init c = record {
  shaped = c.requires.shaped;
  room = (omega arith, refl);
  made = λ head events made. none_repeated events c.args.repeat.now.event made;
}

pub make-requires-clause-shaped : goal.make-requires-clause-shaped
make-requires-clause-shaped c = c.loop.invariant.shaped

pub make-requires-clause-room : goal.make-requires-clause-room
make-requires-clause-room c = omega (arith, c.loop.invariant.room.0, c.loop.invariant.room.1, c.requires.room, c.loop-test.true)

pub returns-in_err-make-clause-room : goal.returns-in_err-make-clause-room
returns-in_err-make-clause-room c = (omega (arith, c.make.ensures.room.0, c.loop.invariant.room.0, c.loop-test.true), c.make.ensures.room.1 ∙ c.loop.invariant.room.1)

pub returns-then-not-branch-clause-room : goal.returns-then-not-branch-clause-room
returns-then-not-branch-clause-room c = (omega (arith, c.make.ensures.room.0, c.loop.invariant.room.0, c.loop-test.true), c.make.ensures.room.1 ∙ c.loop.invariant.room.1)

pub returns-then-not-branch-clause-made : goal.returns-then-not-branch-clause-made
returns-then-not-branch-clause-made c head events made =
    let none : c.in_ok-make.field-0 ≡ false = grind (arith, rules) in
    record {
      done = c.loop.counter;
      left = c.loop-test.true;
      stuck = stuck_by head _ _ c.make.new.self c.in_ok-make.field-0 none (c.in_ok-make.ensures.made head (events ++ replicate c.loop.counter c.args.repeat.now.event) (c.loop.invariant.made head events made));
    }

pub loop-preserved : goal.loop-preserved
loop-preserved c = record {
  shaped = c.make.ensures.shaped;
  room = (omega (arith, c.make.ensures.room.0, c.loop.invariant.room.0), c.make.ensures.room.1 ∙ c.loop.invariant.room.1);
  made = λ head events made.
      let some : c.in_ok-make.field-0 ≡ true = grind (arith, rules) in
      one_repeated events c.args.repeat.now.event c.loop.counter (made_by head _ _ c.make.new.self c.in_ok-make.field-0 some (c.in_ok-make.ensures.made head (events ++ replicate c.loop.counter c.args.repeat.now.event) (c.loop.invariant.made head events made)));
}

pub returns-clause-shaped : goal.returns-clause-shaped
returns-clause-shaped c = c.loop.invariant.shaped

pub returns-clause-room : goal.returns-clause-room
returns-clause-room c = (omega (arith, c.loop.invariant.room.0, c.loop.auto.counter-end), c.loop.invariant.room.1)

pub returns-clause-made : goal.returns-clause-made
returns-clause-made c head events made =
    let all : c.loop.counter ≡ c.args.repeat.now.times = grind (arith, rules) in
    subst (λ (n : ℕ). MadeSoFar head events c.args.repeat.now.event n c.loop.self) all (c.loop.invariant.made head events made)
