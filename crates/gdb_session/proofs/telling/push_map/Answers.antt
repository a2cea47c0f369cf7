use Rattle.std.proofs.Common.{◌≡◌, ◌++◌, ℕ, List, subst}
use Rattle.std.specs.Prelude.{OnOk}
use Rattle.std.specs.String.{string_bytes}
use Rattle.gdb_session.proofs.Bytes.{map_is}
use Rattle.gdb_session.proofs.telling.push_map.Goals as goal

pub returns : goal.returns
returns c =
    subst (λ (t : List ℕ). OnOk c.push_memory_map.result (string_bytes c.push_memory_map.new.text ≡ string_bytes c.args.text.now ++ t))
    (map_is c.args.session.now.state c.words.result.now c.data.result.now c.machine.result.now c.words.ensures.value c.data.ensures c.machine.ensures.state)
    c.push_memory_map.ensures
