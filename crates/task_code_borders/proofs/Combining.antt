-- Statements in parts as they are made.
use Rattle.std.proofs.Common.{◌≡◌, ℕ, Bool, false, true, ap, sym, subst, ◌∙◌}
use Rattle.std.specs.Prelude.{◌&&◌, not, Option, Some, None, IfSome}
use Rattle.std.proofs.lemmas.Bool.{and_parts, not-true}
use Rattle.loop_ir.specs.declared.expressions.Counter.{Counter}
use Rattle.loop_ir.specs.declared.statements.LoopKind.{LoopKind}
use Rattle.loop_ir.specs.declared.statements.LoopKind.TheVariants as kinds
use Rattle.loop_ir.specs.declared.statements.Stmt.{Stmt}
use Rattle.loop_ir.specs.declared.statements.Stmt.TheVariants as s
use Rattle.loop_ir.specs.declared.statements.Whole.{Whole}
use Rattle.task_code_borders.specs.Blind.{IsBlindStatement}
use Rattle.task_code_borders.specs.Borders.{is_border}
use Rattle.task_code_borders.specs.Parted.{IsParted}
use Rattle.task_code_borders.proofs.Iterations.{blind_parted, parted_sequence, parted_serial, parted_bind}

-- what is found is so in another way too
pub found_as : {P Q : Stmt → Type 0} (new_statement : Option Stmt) → ((statement : Stmt) → P statement → Q statement) → IfSome new_statement P → IfSome new_statement Q
found_as None iteration is = tt
found_as (Some statement) iteration is = iteration statement is

pub same_parted : (statement new_statement : Stmt) → new_statement ≡ statement → IsBlindStatement statement
    → IsParted statement new_statement
same_parted statement new_statement is blind = subst (IsParted statement) (sym is) (blind_parted statement blind)

pub copy_parted : (statement inner new_statement : Stmt) → new_statement ≡ inner → IsParted statement inner
    → IsParted statement new_statement
copy_parted statement inner new_statement is parted = subst (IsParted statement) (sym is) parted

pub serial_made : (counter : Counter) (count : ℕ) (body inner statement : Stmt) → statement ≡ s.For counter count kinds.Serial inner → is_border counter ≡ false
    → IsParted body inner → IsParted (s.For counter count kinds.Serial body) statement
serial_made counter count body inner statement is not_border parted =
    subst (IsParted (s.For counter count kinds.Serial body)) (sym is) (parted_serial counter count body inner not_border parted)

pub serial_found : (statement : Stmt) (counter : Counter) (count : ℕ) (kind : LoopKind) (body part : Stmt) (new_statement : Option Stmt)
    → statement ≡ s.For counter count kind body → kind ≡ kinds.Serial → part ≡ body → IfSome new_statement (IsParted (s.For counter count kinds.Serial part))
    → IfSome new_statement (IsParted statement)
serial_found statement counter count kind body part new_statement is kind_is part_is parted =
    let e : s.For counter count kinds.Serial part ≡ statement =
    ap (s.For counter count kinds.Serial) part_is ∙ ap (λ k. s.For counter count k body) (sym kind_is) ∙ sym is in
    subst (λ o. IfSome new_statement (IsParted o)) e parted

pub both_made : (statement first second part other one two new_statement : Stmt) → statement ≡ s.Sequence first second → part ≡ first → other ≡ second → new_statement ≡ s.Sequence one two
    → IsParted part one → IsParted other two → IsParted statement new_statement
both_made statement first second part other one two new_statement is part_is other_is made_is parted too =
    let e : s.Sequence part other ≡ statement = ap (λ p. s.Sequence p other) part_is ∙ ap (s.Sequence first) other_is ∙ sym is in
    subst (λ o. IsParted o new_statement) e (subst (IsParted (s.Sequence part other)) (sym made_is) (parted_sequence part other one two parted too))

pub bound_made : (statement : Stmt) (counter : Counter) (whole : Whole) (extent : ℕ) (body part inner boxed : Stmt) (stages : Bool)
    → statement ≡ s.Bind counter whole extent body → part ≡ body → boxed ≡ inner → is_border counter ≡ false
    → stages ≡ (not (is_border whole.outer) && not (is_border whole.inner)) → stages ≡ true → IsParted part inner
    → IsParted statement (s.Bind counter whole extent boxed)
bound_made statement counter whole extent body part inner boxed stages is part_is boxed_is not_border stages_is has
    parted =
    let both = and_parts (not (is_border whole.outer)) (not (is_border whole.inner)) (sym stages_is ∙ has) in
    let e : s.Bind counter whole extent part ≡ statement = ap (s.Bind counter whole extent) part_is ∙ sym is in
    subst (λ o. IsParted o (s.Bind counter whole extent boxed)) e
    (subst (λ b. IsParted (s.Bind counter whole extent part) (s.Bind counter whole extent b)) (sym boxed_is)
    (parted_bind counter whole extent part inner not_border (not-true (is_border whole.outer) both.0) (not-true (is_border whole.inner) both.1) parted))
