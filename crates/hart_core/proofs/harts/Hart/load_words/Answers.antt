use Rattle.std.proofs.Common.{ap, ◌∙◌, rules, length}
use Rattle.memory.specs.Access.{Reads, first_fault, number_at}
use Rattle.hart_core.specs.HartState.{register, vectors_of, with_vectors}
use Rattle.hart_core.proofs.Scattering.{loaded-words, spots-are}
use Rattle.hart_core.proofs.harts.Hart.load_words.Goals as goal

pub returns-clause-fits : goal.returns-clause-fits
returns-clause-fits g c =
    let fits = rw (c.vectors.ensures, c.register.ensures) at c.in_ok-words.ensures.fits in
    ap (first_fault (length (g.M.Bytes.text c.args.memory.now)) (length (g.M.Bytes.memory c.args.memory.now)) Reads)
    (spots-are (vectors_of c.args.self.now) c.args.spacing (register c.args.self.now c.args.rs1) c.requires.whole.full)
    ∙ fits

pub returns-clause-hart : goal.returns-clause-hart
returns-clause-hart g c =
    let words = rw (c.vectors.ensures, c.register.ensures) at c.in_ok-words.ensures.words in
    c.put_words.ensures
    ∙ ap (with_vectors c.args.self.now) (loaded-words (number_at (g.M.Bytes.text c.args.memory.now) (g.M.Bytes.memory c.args.memory.now))
    (vectors_of c.args.self.now) c.args.vd c.args.spacing (register c.args.self.now c.args.rs1) c.in_ok-words.words c.requires.whole.full words)

pub returns-in_err-words-clause-err : goal.returns-in_err-words-clause-err
returns-in_err-words-clause-err g c =
    let here = rw (c.vectors.ensures, c.register.ensures) at c.in_err-words.ensures.err in
    let err = ap (first_fault (length (g.M.Bytes.text c.args.memory.now)) (length (g.M.Bytes.memory c.args.memory.now)) Reads)
    (spots-are (vectors_of c.args.self.now) c.args.spacing (register c.args.self.now c.args.rs1) c.requires.whole.full)
    ∙ here in
    search (rules, err)
