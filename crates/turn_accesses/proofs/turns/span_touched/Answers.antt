use Rattle.std.proofs.Common.{◌∙◌, ◌∷◌, [], ap, refl, subst, sym}
use Rattle.rv_insn.specs.declared.instructions.Insn.{Insn}
use Rattle.rv_insn.specs.declared.instructions.Insn.TheVariants as i
use Rattle.rv_insn.specs.declared.vector_operations.ElementWidth.TheVariants as widths
use Rattle.memory.specs.Access.{Word, access_at}
use Rattle.hart_core.specs.Scalar.{load_size, store_size}
use Rattle.hart_core.specs.Turn.{fault, judged}
use Rattle.multi_hart.specs.Run.{reads, writes}
use Rattle.turn_accesses.specs.Accesses.{Covers}
use Rattle.turn_accesses.specs.declared.values.AccessKind.TheVariants.{Adds, Loads, Stores}
use Rattle.turn_accesses.proofs.Standing.{one_number}
use Rattle.turn_accesses.proofs.turns.span_touched.Goals as goal

pub returns-in-Load : goal.returns-in-Load
returns-in-Load c =
    let words = c.args.sizes.words in
    let bytes = c.args.sizes.bytes in
    let hart = c.args.hart.now in
    let span = c.number_span.result in
    let load = i.Load c.in-Load.op c.in-Load.rd c.in-Load.rs1 c.in-Load.imm in
    subst (λ (insn : Insn). Covers span (reads (judged insn (fault words bytes insn hart)) hart) (writes (judged insn (fault words bytes insn hart)) hart))
    (sym c.in-Load.is)
    (one_number span words bytes load hart Loads c.width_loaded.result c.address.result refl refl
    (sym (ap (λ s. access_at s c.address.result ∷ []) c.width_loaded.ensures ∙ ap (λ a. access_at (load_size c.in-Load.op) a ∷ []) c.address.ensures))
    c.number_span.ensures)

pub returns-in-Store : goal.returns-in-Store
returns-in-Store c =
    let words = c.args.sizes.words in
    let bytes = c.args.sizes.bytes in
    let hart = c.args.hart.now in
    let span = c.number_span-in-Store.result in
    let store = i.Store c.in-Store.op c.in-Store.rs1 c.in-Store.rs2 c.in-Store.imm in
    subst (λ (insn : Insn). Covers span (reads (judged insn (fault words bytes insn hart)) hart) (writes (judged insn (fault words bytes insn hart)) hart))
    (sym c.in-Store.is)
    (one_number span words bytes store hart Stores c.width_stored.result c.address-in-Store.result refl refl
    (sym (ap (λ s. access_at s c.address-in-Store.result ∷ []) c.width_stored.ensures
    ∙ ap (λ a. access_at (store_size c.in-Store.op) a ∷ []) c.address-in-Store.ensures)) c.number_span-in-Store.ensures)

pub returns-in-AmoaddW : goal.returns-in-AmoaddW
returns-in-AmoaddW c =
    let words = c.args.sizes.words in
    let bytes = c.args.sizes.bytes in
    let hart = c.args.hart.now in
    let span = c.number_span-in-AmoaddW.result in
    let add = i.AmoaddW c.in-AmoaddW.rd c.in-AmoaddW.rs1 c.in-AmoaddW.rs2 c.in-AmoaddW.aq c.in-AmoaddW.rl in
    subst (λ (insn : Insn). Covers span (reads (judged insn (fault words bytes insn hart)) hart) (writes (judged insn (fault words bytes insn hart)) hart))
    (sym c.in-AmoaddW.is)
    (one_number span words bytes add hart Adds widths.Bits32 c.register.result refl refl
    (sym (ap (λ a. access_at Word a ∷ []) c.register.ensures)) c.number_span-in-AmoaddW.ensures)
