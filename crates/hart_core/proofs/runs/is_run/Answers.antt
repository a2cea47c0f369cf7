use Rattle.std.proofs.Common.{◌≤◌, ◌*◌, ◌∙◌, sym, length}
use Rattle.std.specs.Prelude.{IsTrue}
use Rattle.memory.specs.Access.{in_data}
use Rattle.vector_unit.specs.Vector.{count}
use Rattle.hart_core.proofs.WordRuns.{lies_in_data}
use Rattle.hart_core.proofs.runs.is_run.Goals as goal

pub returns : goal.returns
returns g c = λ covers.
    let taken = c.if-not-takes_words.false in
    let all = c.count.ensures.value in
    let few : count c.args.state.now ≤ 64 = rw all at (c.count.ensures.few (c.takes_words.ensures.configured taken)) in
    let inside : IsTrue (in_data (length (g.M.Bytes.memory c.args.memory.now)) c.args.base (4 * count c.args.state.now)) =
    rw all at (sym c.covers_store.ensures ∙ covers) in
    record {
      configured = c.takes_words.ensures.configured taken;
      words = c.takes_words.ensures.words taken;
      full = c.takes_words.ensures.full taken;
      placed = c.takes_words.ensures.placed taken;
      lies = lies_in_data _ c.args.base (count c.args.state.now) c.if-base-ne0.false c.if-base-ge-LAST_ADDRESSES.false few inside;
    }
