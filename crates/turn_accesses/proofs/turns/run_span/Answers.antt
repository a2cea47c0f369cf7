use Rattle.std.proofs.Common.{◌≡◌, ◌∙◌, ◌≤◌, ◌<◌, ◌+◌, ◌*◌, ◌^◌, ℕ, ap, subst, sym}
use Rattle.memory.specs.Access.{bytes_in}
use Rattle.vector_unit.specs.Accesses.{addresses_by}
use Rattle.vector_unit.specs.Vector.{count}
use Rattle.vector_unit.specs.declared.accesses.Spacing.TheVariants.{UnitStride}
use Rattle.hart_core.specs.HartState.{register, vectors_of}
use Rattle.hart_core.specs.VectorRows.{accesses_at, size_of}
use Rattle.turn_accesses.proofs.Running.{run_lies}
use Rattle.turn_accesses.proofs.Spanning.{covers_kind}
use Rattle.turn_accesses.proofs.turns.run_span.Goals as goal

pub returns : goal.returns
returns c = λ vm.
    let w = c.args.width in
    let base : ℕ = register c.args.hart.now c.args.rs1 in
    let state = vectors_of c.args.hart.now in
    let first : c.from-first.result ≡ base = c.from-first.ensures ∙ c.register.ensures in
    let many : c.from.result ≡ count state = c.from.ensures ∙ c.count.ensures.value ∙ ap count c.vectors.ensures in
    let wide : c.from-2.result ≡ bytes_in (size_of w) = c.from-2.ensures ∙ c.bytes_of.ensures in
    let end : c.from-first.result + c.from.result * c.from-2.result ≡ base + count state * bytes_in (size_of w) =
    ap (λ f. f + c.from.result * c.from-2.result) first ∙ ap (λ n. base + n * c.from-2.result) many ∙ ap (λ b. base + count state * b) wide in
    let fits : base + count state * bytes_in (size_of w) ≤ 2 ^ 32 = subst (λ (e : ℕ). e ≤ 2 ^ 32) end c.if-end.false in
    let begins : c.span_from.result.first ≡ base = c.span_from.ensures.first ∙ first in
    let ends : c.span_from.result.end ≡ base + count state * bytes_in (size_of w) = c.span_from.ensures.end ∙ end in
    covers_kind c.span_from.result c.args.kind (accesses_at w (addresses_by state (UnitStride w) vm base)) (λ place is.
    (let lies = run_lies state w vm base fits place is in
    (subst (λ (f : ℕ). f ≤ place) (sym begins) lies.0, subst (λ (e : ℕ). place < e) (sym ends) lies.1))) c.span_from.ensures.stores
