use Rattle.hart_core.specs.HartState.{vectors_of}
use Rattle.hart_core.proofs.Scattering.{is-strided}
use Rattle.hart_core.proofs.harts.Hart.load_strided.Goals as goal

pub returns-clause-legal : goal.returns-clause-legal
returns-clause-legal g c =
    is-strided (vectors_of c.args.self.now) (record { configured = c.requires.configured; words = c.requires.words; full = c.requires.full }) c.args.vd
    c.requires.placed c.args.rs1 c.args.rs2
