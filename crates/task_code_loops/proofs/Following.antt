-- Code after other code, and iterations that are laid out.
use Rattle.std.proofs.Common.{suc, ◌++◌, refl, sym}
use Rattle.loop_ir.specs.Running.{iterated}
use Rattle.multi_hart_laws.specs.Paths.{end}
use Rattle.multi_hart_laws.proofs.Paths.{stay, stand-front, stand-back, end-append}
use Rattle.task_code_registers.specs.Scopes.{Knows, IsKept}
use Rattle.task_code_registers.proofs.Going.{Went, went-hits, went-then, within, still}
use Rattle.task_code_registers.proofs.Knowing.{knows-still}
use Rattle.task_code_registers.proofs.Looping.{marked-did, did-went, points_hit}
use Rattle.task_code_loops.specs.Guarding.{CodeFollows, NoneAreLaidOut, OneMoreIsLaidOut, ScopesForget}
use Rattle.task_code_loops.proofs.Knowledge.{knows-with, knows-without}

pub code-follows : CodeFollows
code-follows own hart scope values first second n k f memory middle funcs stored one_stored other_stored knows a next union =
    let w = own.world in
    let whole = first ++ second in
    let one = marked-did (IsKept scope) (IsKept scope) (Knows hart scope values) (λ q h. h) (λ g same. knows-still hart scope values f g same knows) a in
    let went = one.went in
    let other = marked-did (IsKept scope) (IsKept scope) (λ g. Unit {0}) (λ q h. h) (λ g same. tt) (next went.after went.left went.holds one.mark) in
    let front : Went own whole (λ at. at) (λ at. end at first) n f memory (IsKept scope) middle (points_hit one_stored) =
    within own (λ at. at) (λ at. end at first) (λ at s. stand-front w.text at first second s) (λ at. refl) went in
    let back : Went own whole (λ at. end at first) (λ at. end at whole) k went.after went.left (IsKept scope) funcs (points_hit other_stored) =
    within own (λ at. end at first) (λ at. end at whole) (λ at s. stand-back w.text at first second s) (λ at. sym (end-append at first second)) other.went in
    did-went (went-hits own union (went-then own front back))

pub none-are-laid-out : NoneAreLaidOut
unfolding iterated
none-are-laid-out own hart scope values one body_stored stored all = record {
  does = λ f memory funcs holds knows.
      did-went (went-hits own (λ func x y hit. all.none funcs func x y hit)
      (still own (λ at. at) (λ at. at) 0 f holds (λ q kept. refl) (λ at s. stay own.world at f memory)));
}

pub one-more-is-laid-out : OneMoreIsLaidOut
unfolding iterated
one-more-is-laid-out own hart scope counter values k n t code body one body_stored stored none all so_far next = record {
  does = λ f memory funcs holds knows.
      code-follows own hart scope values code body n t f memory (iterated k one funcs) (one k (iterated k one funcs)) (stored (suc k) funcs)
      (stored k funcs) (body_stored k (iterated k one funcs)) knows (so_far.does f memory funcs holds knows)
      (λ g left holding known. next g left (iterated k one funcs) holding (knows-with counter k hart scope values g none known))
      (all.more k funcs);
}

pub scopes-forget : ScopesForget
scopes-forget counter v hart scope values f none = (knows-with counter v hart scope values f none, knows-without counter v hart scope values f none)
