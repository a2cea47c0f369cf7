use Rattle.std.proofs.Common.{◌≡◌, ℕ, suc, ◌+◌, ◌-◌, ◌%◌, Err, Ok, sym, ap, ◌∙◌, rules, arith}
use Rattle.picture.specs.Reading.{pixel_then, pixels_at, separator}
use Rattle.picture.proofs.Loops.{Left, goes_on, refused, is_done, mod_down, mod_less, separator_is}
use Rattle.picture.proofs.readings.pixels_at.Goals as goal
use Rattle.picture.proofs.readings.pixels_at.Goals.{then-ahead-eq0, else-ahead-eq0}

pub returns-in_err-pixel-clause-value : goal.returns-in_err-pixel-clause-value
returns-in_err-pixel-clause-value c =
    let left = c.args.count - 1 - c.loop-done.done in
    let e : c.args.count - c.loop-done.done ≡ suc left = omega arith in
    let l : Left c.args.width c.args.count c.args.text.now c.loop-done.pixels.items (suc left) c.loop-done.rest.now = rw e at c.loop-done.invariant.left in
    let was : c.loop-done.ahead ≡ suc left % c.args.width = c.loop-done.invariant.ahead ∙ ap (λ (n : ℕ). n % c.args.width) e in
    let ahead : c.if-ahead-eq0.ahead ≡ left % c.args.width =
    elim c.if-ahead-eq0.branch [
      | then-ahead-eq0 w ↦ w.ahead-is ∙ sym (mod_down left c.args.width c.requires (sym was ∙ w.if-ahead-eq0.true))
      | else-ahead-eq0 w ↦
          w.ahead-is ∙ ap (λ (n : ℕ). n - 1) was ∙ sym (mod_less left c.args.width c.requires (omega (arith, was, w.if-ahead-eq0.false)))
    ] in
    let word = separator_is c.args.width left c.if-ahead-eq0.ahead c.separator_ahead_of.result.now c.separator_ahead_of.ensures.value ahead in
    let read : pixel_then (separator c.args.width left) c.loop-done.rest.now ≡ Err c.in_err-pixel.field-0.0 =
    ap (λ word. pixel_then word c.loop-done.rest.now) (sym word) ∙ c.in_err-pixel.ensures in
    let f : pixels_at c.args.width c.args.count c.args.text.now ≡ Err c.in_err-pixel.field-0.0 =
    refused c.args.width c.args.count c.args.text.now c.loop-done.pixels.items left c.loop-done.rest.now c.in_err-pixel.field-0.0 l read in
    search (rules, f)

pub loop-done-preserved : goal.loop-done-preserved
loop-done-preserved c =
    let left = c.args.count - 1 - c.loop-done.done in
    let e : c.args.count - c.loop-done.done ≡ suc left = omega arith in
    let n : c.args.count - (c.loop-done.done + 1) ≡ left = omega arith in
    let l : Left c.args.width c.args.count c.args.text.now c.loop-done.pixels.items (suc left) c.loop-done.rest.now = rw e at c.loop-done.invariant.left in
    let was : c.loop-done.ahead ≡ suc left % c.args.width = c.loop-done.invariant.ahead ∙ ap (λ (n : ℕ). n % c.args.width) e in
    let ahead : c.if-ahead-eq0.ahead ≡ left % c.args.width =
    elim c.if-ahead-eq0.branch [
      | then-ahead-eq0 w ↦ w.ahead-is ∙ sym (mod_down left c.args.width c.requires (sym was ∙ w.if-ahead-eq0.true))
      | else-ahead-eq0 w ↦
          w.ahead-is ∙ ap (λ (n : ℕ). n - 1) was ∙ sym (mod_less left c.args.width c.requires (omega (arith, was, w.if-ahead-eq0.false)))
    ] in
    let word = separator_is c.args.width left c.if-ahead-eq0.ahead c.separator_ahead_of.result.now c.separator_ahead_of.ensures.value ahead in
    let read : pixel_then (separator c.args.width left) c.loop-done.rest.now ≡ Ok (c.in_ok-pixel.pixel, c.in_ok-pixel.after.now) =
    ap (λ word. pixel_then word c.loop-done.rest.now) (sym word) ∙ c.in_ok-pixel.ensures in
    record {
      left = rw n (goes_on c.args.width c.args.count c.args.text.now c.loop-done.pixels.items left c.loop-done.rest.now c.in_ok-pixel.pixel
          c.in_ok-pixel.after.now c.push.new.self.items l read c.in_ok-push.ensures.items);
      len = omega (arith, c.in_ok-push.ensures.len);
      ahead = ahead ∙ ap (λ (k : ℕ). k % c.args.width) (sym n);
    }

pub returns-clause-value : goal.returns-clause-value
returns-clause-value c = is_done c.args.width c.args.count c.args.text.now c.loop-done.pixels.items (c.args.count - c.loop-done.done) c.loop-done.rest.now
    c.loop-done.invariant.left (omega arith)
