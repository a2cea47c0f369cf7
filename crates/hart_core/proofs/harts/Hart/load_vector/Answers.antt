use Rattle.std.proofs.Common.{ap, ◌∙◌, length}
use Rattle.memory.specs.Access.{Reads, first_fault}
use Rattle.hart_core.specs.HartState.{register, vectors_of, advanced}
use Rattle.hart_core.specs.VectorRows.{accesses_at}
use Rattle.hart_core.specs.inner.Pieces.{IsPiece}
use Rattle.hart_core.proofs.Lying.{addresses-are, loaded-is, reads-free}
use Rattle.hart_core.proofs.harts.Hart.load_vector.Goals as goal

pub returns-then-is_piece-clause-fits : goal.returns-then-is_piece-clause-fits
returns-then-is_piece-clause-fits g c =
    let memory = g.M.Bytes.memory c.args.memory.now in
    let access = c.args.access.now in
    let p : IsPiece (length memory) (vectors_of c.args.self.now) access.group.width access.spacing access.vm (register c.args.self.now access.rs1) =
    rw (c.vectors.ensures, c.register-base.ensures) at (c.is_piece.ensures c.if-is_piece.true) in
    ap (λ places. first_fault (length (g.M.Bytes.text c.args.memory.now)) (length memory) Reads (accesses_at access.group.width places))
    (addresses-are _ _ _ _ _ _ p)
    ∙ reads-free (length memory) (length (g.M.Bytes.text c.args.memory.now)) access.group.width _ _ p.lies

pub returns-then-is_piece-clause-hart : goal.returns-then-is_piece-clause-hart
returns-then-is_piece-clause-hart g c =
    let memory = g.M.Bytes.memory c.args.memory.now in
    let access = c.args.access.now in
    let p : IsPiece (length memory) (vectors_of c.args.self.now) access.group.width access.spacing access.vm (register c.args.self.now access.rs1) =
    rw (c.vectors.ensures, c.register-base.ensures) at (c.is_piece.ensures c.if-is_piece.true) in
    let q = rw c.register-base.ensures at c.load_group.ensures in
    c.advance.ensures.hart ∙ ap advanced (rw (addresses-are _ _ _ _ _ _ p, loaded-is _ _ _ _ _ _ p access.group.v _) q)
