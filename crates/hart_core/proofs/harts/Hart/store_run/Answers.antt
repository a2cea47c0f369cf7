use Rattle.std.proofs.Common.{ap, ◌∙◌, length}
use Rattle.memory.specs.Access.{Writes, first_fault}
use Rattle.rv_insn.specs.declared.vector_operations.ElementWidth.TheVariants.{Bits32}
use Rattle.hart_core.specs.VectorRows.{accesses_at}
use Rattle.hart_core.proofs.Lying.{addresses-are, numbers-are, writes-free}
use Rattle.hart_core.proofs.WordRuns.{is-store, run_piece}
use Rattle.hart_core.proofs.harts.Hart.store_run.Goals as goal

pub returns-clause-legal : goal.returns-clause-legal
returns-clause-legal g c = is-store _ _ _ _ c.requires c.args.rs1

pub returns-clause-fits : goal.returns-clause-fits
returns-clause-fits g c =
    let memory = g.M.Bytes.memory c.args.memory.now in
    let p = run_piece _ _ _ _ c.requires in
    ap (λ places. first_fault (length (g.M.Bytes.text c.args.memory.now)) (length memory) Writes (accesses_at Bits32 places))
    (addresses-are _ _ _ _ _ _ p)
    ∙ writes-free (length memory) (length (g.M.Bytes.text c.args.memory.now)) Bits32 _ _ p.lies

pub returns-clause-put : goal.returns-clause-put
returns-clause-put g c =
    let p = run_piece _ _ _ _ c.requires in
    let q = rw (c.vectors.ensures, c.register.ensures) at c.store_group_of_words.ensures.put in
    rw (addresses-are _ _ _ _ _ _ p, numbers-are _ _ _ _ _ _ p c.args.vs3) q
