-- Words that were appended stand in the text that goes on from there.
use Rattle.std.proofs.Common.{◌≡◌, ◌+◌, ◌*◌, ◌≤◌, length, ◌++◌, ap, ◌∙◌, sym, subst, arith, length-append, append_assoc}
use Rattle.task_code_scalar.proofs.Looping.{end-length}
use Rattle.task_code_scalar.proofs.Spelling.{stand-spelled, spell-length}
use Rattle.multi_hart_laws.specs.Paths.{Stand}
use Rattle.task_code.specs.Tasks.{AppendedWordsStand}

pub appended-stand : AppendedWordsStand
appended-stand old new behind text insns x is few =
    let whole : text ≡ old ++ (x.words ++ behind) = is ∙ ap (λ z. z ++ behind) x.appended ∙ append_assoc old x.words behind in
    let at = 65536 + 4 * length old in
    let few' : length (old ++ (x.words ++ behind)) ≤ 262144 = subst (λ z. length z ≤ 262144) whole few in
    record {
      stand = subst (λ z. Stand z at insns) (sym whole) (stand-spelled old x.words behind insns few' x.spelled);
      end_is =
          let p = end-length at insns in
          let q : length new ≡ length old + length x.words = ap length x.appended ∙ length-append old x.words in
          let r = spell-length x.words insns x.spelled in
          omega (arith, p, q, r);
    }
