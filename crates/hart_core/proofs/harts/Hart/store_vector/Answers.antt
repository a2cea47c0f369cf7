use Rattle.std.proofs.Common.{ap, ◌∙◌, length}
use Rattle.memory.specs.Access.{Writes, first_fault}
use Rattle.hart_core.specs.HartState.{register, vectors_of}
use Rattle.hart_core.specs.VectorRows.{accesses_at}
use Rattle.hart_core.specs.inner.Pieces.{IsPiece}
use Rattle.hart_core.proofs.Lying.{addresses-are, numbers-are, writes-free}
use Rattle.hart_core.proofs.harts.Hart.store_vector.Goals as goal

pub returns-then-is_piece-clause-fits : goal.returns-then-is_piece-clause-fits
returns-then-is_piece-clause-fits g c =
    let memory = g.M.Bytes.memory c.args.memory.now in
    let access = c.args.access.now in
    let p : IsPiece (length memory) (vectors_of c.args.self.now) access.group.width access.spacing access.vm (register c.args.self.now access.rs1) =
    rw (c.vectors.ensures, c.register-base.ensures) at (c.is_piece.ensures c.if-is_piece.true) in
    ap (λ places. first_fault (length (g.M.Bytes.text c.args.memory.now)) (length memory) Writes (accesses_at access.group.width places))
    (addresses-are _ _ _ _ _ _ p)
    ∙ writes-free (length memory) (length (g.M.Bytes.text c.args.memory.now)) access.group.width _ _ p.lies

pub returns-then-is_piece-clause-put : goal.returns-then-is_piece-clause-put
returns-then-is_piece-clause-put g c =
    let memory = g.M.Bytes.memory c.args.memory.now in
    let access = c.args.access.now in
    let p : IsPiece (length memory) (vectors_of c.args.self.now) access.group.width access.spacing access.vm (register c.args.self.now access.rs1) =
    rw (c.vectors.ensures, c.register-base.ensures) at (c.is_piece.ensures c.if-is_piece.true) in
    let q = rw (c.vectors-then-is_piece.ensures, c.register-base.ensures) at c.store_group.ensures.put in
    rw (addresses-are _ _ _ _ _ _ p, numbers-are _ _ _ _ _ _ p access.group.v) q
