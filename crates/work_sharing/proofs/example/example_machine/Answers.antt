use Rattle.std.proofs.Common.{◌≡◌, ◌∙◌, subst, IfOk}
use Rattle.multi_hart.specs.Run.{opened}
use Rattle.work_sharing.specs.Example.{example_text, example_data}
use Rattle.work_sharing.proofs.example.example_machine.Goals as goal

pub returns-clause-opened : goal.returns-clause-opened
returns-clause-opened c =
    let words : c.in_ok-words.words.items ≡ example_text = c.in_ok-words.ensures.items_if_clones_equal (λ x y e. e) ∙ c.example_words.ensures in
    let bytes : c.in_ok-bytes.bytes.items ≡ example_data = c.in_ok-bytes.ensures.items_if_clones_equal (λ y e. e) in
    subst (λ text. IfOk c.new.result (λ machine. machine ≡ opened 65536 text example_data c.args.harts)) words
    (subst (λ memory. IfOk c.new.result (λ machine. machine ≡ opened 65536 c.in_ok-words.words.items memory c.args.harts)) bytes c.new.ensures.opened)
