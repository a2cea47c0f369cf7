use Rattle.std.proofs.Common.{◌<◌, arith}
use Rattle.vector_unit.specs.inner.Wholes.{IsWhole}
use Rattle.hart_core.specs.HartState.{vectors_of}
use Rattle.hart_core.proofs.Scattering.{held_all, is-indexed}
use Rattle.hart_core.proofs.harts.Hart.load_indexed.Goals as goal

pub load_words-requires-clause-held : goal.load_words-requires-clause-held
load_words-requires-clause-held g c =
    let whole : IsWhole (vectors_of c.args.self.now) = record { configured = c.requires.configured; words = c.requires.words; full = c.requires.full } in
    let low : c.args.vs2 < 32 = omega arith in
    λ index l. held_all (vectors_of c.args.self.now) whole c.args.vs2 low c.requires.offsets index l

pub returns-clause-legal : goal.returns-clause-legal
returns-clause-legal g c =
    is-indexed (vectors_of c.args.self.now) (record { configured = c.requires.configured; words = c.requires.words; full = c.requires.full }) c.args.vd
    c.requires.placed c.args.rs1 c.args.vs2 c.requires.offsets
