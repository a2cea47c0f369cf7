use Rattle.std.proofs.Common.{◌≡◌, ◌≢◌, [], length, ap, arith, rules}
use Rattle.std.proofs.lemmas.Grind.{common_steps}
use Rattle.line_text.proofs.LineLaws.{no_lines}
use Rattle.line_text.proofs.ReadingLaws.{goes_on, fails, is_done}
use Rattle.line_text.proofs.line_readers.read_lines.Goals as goal

pub returns-in-Err-clause-read : goal.returns-in-Err-clause-read
returns-in-Err-clause-read g c =
    let some : c.lines.rest.now ≢ [] = search rules in
    rw c.at_line.ensures (fails _ _ _ _ c.lines.rest.now _ c.take_line.new.self _ _ c.in-Err.error (c.first_line.ensures.lines some) c.in-Err.ensures
    c.lines.invariant)

pub lines-preserved : goal.lines-preserved
lines-preserved g c =
    let some : c.lines.rest.now ≢ [] = search rules in
    goes_on _ _ _ _ c.lines.rest.now _ _ _ _ (c.first_line.ensures.lines some) (c.first_line.ensures.shorter some) c.in-Ok.ensures c.lines.invariant

pub returns-clause-read : goal.returns-clause-read
returns-clause-read g c =
    let e : c.lines.rest.now ≡ [] = grind (arith, common_steps) in
    is_done _ _ _ _ c.lines.rest.now _ e c.lines.invariant

pub returns-clause-count : goal.returns-clause-count
returns-clause-count g c =
    let e : c.lines.rest.now ≡ [] = grind (arith, common_steps) in
    omega (arith, c.lines.invariant.counted, ap length (no_lines c.lines.rest.now e))
