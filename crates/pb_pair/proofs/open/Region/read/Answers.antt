use Rattle.std.proofs.Common.{◌≡◌, ℕ, get_or, refl, sym, ap, ◌∙◌, arith}
use Rattle.pb_pmem.specs.declared.line.Line.{Line}
use Rattle.pb_pmem.specs.Lines.{line_at}
use Rattle.pb_layout.specs.Header.{word}
use Rattle.pb_pair.specs.Open.{IsOpenStop}
use Rattle.pb_pair.proofs.Changes.{line_found}
use Rattle.pb_pair.proofs.Opened.{refused_first, refused_second, found_of, AreRead, has_read_region}
use Rattle.pb_pair.proofs.Tests.{passed_up}
use Rattle.pb_pair.proofs.open.Region.read.Goals as goal

pub returns-in_err-first-clause-err : goal.returns-in_err-first-clause-err
returns-in_err-first-clause-err g c =
    let old = g.P.Pmem.seen c.args.device.now in
    let mid = g.P.Pmem.seen c.read_lines.new.device in
    let new = g.P.Pmem.seen c.read_side.new.device in
    let front = c.read_lines.new.into in
    let head = c.in_ok-head.head in
    let first : ℕ = get_or (get_or front 1 c.index-front-1.result).words 0 0 in
    let second : ℕ = word (line_at front 2) 0 in
    let one : first ≡ word (line_at front 1) 0 = ap (λ (l : Line). word l 0) (sym c.index-front-1.is ∙ sym (line_found front 1 c.index-front-1.result (omega (arith, c.read_lines.auto.into)) c.index-front-1.is)) in
    let found = found_of old mid front head first second c.read_lines.auto.into c.in_ok-read_lines.ensures.ok c.in_ok-head.ensures.ok one refl in
    passed_up c.from_residual-in_err-first.result c.in_err-first.field-0.0 (IsOpenStop old new) c.from_residual-in_err-first.ensures.1
    (refused_first old mid new head first second c.in_err-first.field-0.0 c.in_ok-read_lines.ensures.ok.same found c.in_err-first.ensures.err)

pub returns-in_err-second-clause-err : goal.returns-in_err-second-clause-err
returns-in_err-second-clause-err g c =
    let old = g.P.Pmem.seen c.args.device.now in
    let mid = g.P.Pmem.seen c.read_lines.new.device in
    let between = g.P.Pmem.seen c.read_side.new.device in
    let new = g.P.Pmem.seen c.read_second.new.device in
    let front = c.read_lines.new.into in
    let head = c.in_ok-head.head in
    let first : ℕ = get_or (get_or front 1 c.index-front-1.result).words 0 0 in
    let second : ℕ = get_or (get_or front 2 c.index-front-2.result).words 0 0 in
    let one : first ≡ word (line_at front 1) 0 = ap (λ (l : Line). word l 0) (sym c.index-front-1.is ∙ sym (line_found front 1 c.index-front-1.result (omega (arith, c.read_lines.auto.into)) c.index-front-1.is)) in
    let two : second ≡ word (line_at front 2) 0 = ap (λ (l : Line). word l 0) (sym c.index-front-2.is ∙ sym (line_found front 2 c.index-front-2.result (omega (arith, c.read_lines.auto.into)) c.index-front-2.is)) in
    let found = found_of old mid front head first second c.read_lines.auto.into c.in_ok-read_lines.ensures.ok c.in_ok-head.ensures.ok one two in
    passed_up c.from_residual-in_err-second.result c.in_err-second.field-0.0 (IsOpenStop old new) c.from_residual-in_err-second.ensures.1
    (refused_second old mid between new head first second c.in_ok-first.first c.in_err-second.field-0.0 c.in_ok-read_lines.ensures.ok.same found c.in_ok-first.ensures.ok c.in_err-second.ensures.err)

pub returns-clause-ok : goal.returns-clause-ok
returns-clause-ok g c =
    let old = g.P.Pmem.seen c.args.device.now in
    let mid = g.P.Pmem.seen c.read_lines.new.device in
    let between = g.P.Pmem.seen c.read_side.new.device in
    let new = g.P.Pmem.seen c.read_second.new.device in
    let front = c.read_lines.new.into in
    let head = c.in_ok-head.head in
    let first : ℕ = get_or (get_or front 1 c.index-front-1.result).words 0 0 in
    let second : ℕ = get_or (get_or front 2 c.index-front-2.result).words 0 0 in
    let one : first ≡ word (line_at front 1) 0 = ap (λ (l : Line). word l 0) (sym c.index-front-1.is ∙ sym (line_found front 1 c.index-front-1.result (omega (arith, c.read_lines.auto.into)) c.index-front-1.is)) in
    let two : second ≡ word (line_at front 2) 0 = ap (λ (l : Line). word l 0) (sym c.index-front-2.is ∙ sym (line_found front 2 c.index-front-2.result (omega (arith, c.read_lines.auto.into)) c.index-front-2.is)) in
    let are : AreRead head first second c.in_ok-first.first c.in_ok-second.second old mid between new = record {
      same = c.in_ok-read_lines.ensures.ok.same;
      whole = g.met.P.Pmem.is_whole c.args.device.now;
      replay = g.met.P.Pmem.is_replay c.args.device.now;
      found = found_of old mid front head first second c.read_lines.auto.into c.in_ok-read_lines.ensures.ok c.in_ok-head.ensures.ok one two;
      valid = c.in_ok-head.ensures.ok.valid;
      first_read = c.in_ok-first.ensures.ok;
      second_read = c.in_ok-second.ensures.ok;
    } in
    has_read_region head first second c.in_ok-first.first c.in_ok-second.second old mid between new are
