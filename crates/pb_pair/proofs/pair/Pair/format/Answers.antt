use Rattle.std.proofs.Common.{◌≡◌, sym, ap, subst}
use Rattle.pb_pmem.specs.Device.{IsWhole, IsReplay}
use Rattle.pb_pair.specs.Safe.{FailedFormatCovers}
use Rattle.pb_pair.proofs.Formatted.{formatted}
use Rattle.pb_pair.proofs.Safe.{format_covers, stop_covers}
use Rattle.pb_pair.proofs.pair.Pair.format.Goals as goal

pub invariant_of-result : goal.invariant_of-result
invariant_of-result g c =
    let old = g.P.Pmem.seen c.args.device in
    let whole : IsWhole old = g.met.P.Pmem.is_whole c.args.device in
    let replay : IsReplay old = g.met.P.Pmem.is_replay c.args.device in
    ((formatted old (g.P.Pmem.seen c.make_region.new.device) c.args.head.now c.args.first.now c.args.second.now c.in-Ok.sides c.requires whole replay c.in-Ok.ensures.ok).sound, c.in-Ok.ensures.ok.room)

pub returns-in-Ok-clause-ok : goal.returns-in-Ok-clause-ok
returns-in-Ok-clause-ok g c =
    let old = g.P.Pmem.seen c.args.device in
    let whole : IsWhole old = g.met.P.Pmem.is_whole c.args.device in
    let replay : IsReplay old = g.met.P.Pmem.is_replay c.args.device in
    formatted old (g.P.Pmem.seen c.make_region.new.device) c.args.head.now c.args.first.now c.args.second.now c.in-Ok.sides c.requires whole replay c.in-Ok.ensures.ok

pub returns-in-Ok-clause-safe : goal.returns-in-Ok-clause-safe
returns-in-Ok-clause-safe g c =
    let old = g.P.Pmem.seen c.args.device in
    let whole : IsWhole old = g.met.P.Pmem.is_whole c.args.device in
    let replay : IsReplay old = g.met.P.Pmem.is_replay c.args.device in
    format_covers c.args.head.now c.args.first.now c.args.second.now old (g.P.Pmem.seen c.make_region.new.device) whole replay c.requires.valid c.in-Ok.ensures.ok.device

pub returns-in-Err-clause-fails_safe : goal.returns-in-Err-clause-fails_safe
returns-in-Err-clause-fails_safe g c =
    let head = c.args.head.now in
    let first = c.args.first.now in
    let second = c.args.second.now in
    let old = g.P.Pmem.seen c.args.device in
    let mid = g.P.Pmem.seen c.make_region.new.device in
    let new = g.P.Pmem.seen c.refuse.result.device in
    let whole : IsWhole old = g.met.P.Pmem.is_whole c.args.device in
    let replay : IsReplay old = g.met.P.Pmem.is_replay c.args.device in
    let same : mid ≡ new = ap g.P.Pmem.seen (sym c.refuse.ensures.device) in
    subst (FailedFormatCovers head first second old) same (stop_covers head first second old mid c.in-Err.stop whole replay c.requires.valid c.in-Err.ensures.err)
