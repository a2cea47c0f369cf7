use Rattle.std.proofs.Common.{◌≡◌, ◌∙◌, ◌++◌, ◌+◌, ◌-◌, suc, ℕ, List, ap, arith, sym}
use Rattle.std.proofs.lemmas.List.{append-nil}
use Rattle.debugger.specs.Places.{state_here}
use Rattle.gdb_session.specs.Memories.{bytes_from}
use Rattle.gdb_session.specs.Texts.{hex_of}
use Rattle.gdb_session.proofs.Bytes.{all_read, none_left, one_more}
use Rattle.gdb_session.proofs.memories.push_bytes.Goals as goal

pub loop-number-init : goal.loop-number-init
loop-number-init c =
    let state = state_here c.args.session.now.state in
    let here : c.args.address + 0 ≡ c.args.address = omega arith in
    let all : c.args.count - 0 ≡ c.args.count = omega arith in
    ap (λ (k : ℕ). c.args.out.now.items ++ hex_of (bytes_from state k (c.args.count - 0))) here
    ∙ ap (λ (k : ℕ). c.args.out.now.items ++ hex_of (bytes_from state c.args.address k)) all

pub loop-number-preserved : goal.loop-number-preserved
loop-number-preserved c =
    let state = state_here c.args.session.now.state in
    let i = c.loop-number.number in
    let next : c.args.address + (i + 1) ≡ c.args.address + i + 1 = omega arith in
    let more : c.args.count - i ≡ suc (c.args.count - (i + 1)) = omega arith in
    ap (λ (k : ℕ). c.push_hex.new.out.items ++ hex_of (bytes_from state k (c.args.count - (i + 1)))) next
    ∙ one_more state (c.args.address + i) (c.args.count - (i + 1)) (c.args.count - i) c.in-Some.byte c.loop-number.out.items c.push_hex.new.out.items more
    (sym c.in-Some.ensures) c.in_ok-push_hex.ensures
    ∙ c.loop-number.invariant

pub returns-in_default : goal.returns-in_default
returns-in_default c =
    let state = state_here c.args.session.now.state in
    let i = c.loop-number.number in
    let more : c.args.count - i ≡ suc (c.args.count - (i + 1)) = omega arith in
    let none = none_left state (c.args.address + i) (c.args.count - (i + 1)) (c.args.count - i) more (sym c.in_default.ensures) in
    sym (append-nil c.loop-number.out.items) ∙ sym (ap (λ (bs : List ℕ). c.loop-number.out.items ++ hex_of bs) none) ∙ c.loop-number.invariant

pub returns : goal.returns
returns c =
    let state = state_here c.args.session.now.state in
    let i = c.loop-number.number in
    let over : c.args.count - i ≡ 0 = omega arith in
    let none = all_read state (c.args.address + i) (c.args.count - i) over in
    sym (append-nil c.loop-number.out.items) ∙ sym (ap (λ (bs : List ℕ). c.loop-number.out.items ++ hex_of bs) none) ∙ c.loop-number.invariant
