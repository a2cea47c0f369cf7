use Rattle.std.proofs.Common.{◌≡◌, ◌∙◌, ◌-◌, ◌++◌, ◌^◌, true, ap, arith, subst, sym}
use Rattle.std.specs.Str.{IsUtf8}
use Rattle.std.proofs.lemmas.Str.{IsUtf8-append}
use Rattle.hrv_engines.specs.inner.Fronts.{IsLineTold}
use Rattle.hrv_engines.specs.inner.LineCounts.{line_feeds}
use Rattle.hrv_engines.proofs.ScheduleFronts.{feeds_added}
use Rattle.hrv_engines.proofs.TextFronts.{all_so_far, kept_if}
use Rattle.hrv_engines.proofs.texts.KeptFront.push.Goals as goal

pub returns-clause-keeps : goal.returns-clause-keeps
returns-clause-keeps c text old is_text =
    let before = c.args.self.now.bytes.items in
    let after = c.extend_from_slice.new.self.items in
    let front = c.args.front.now in
    let items : after ≡ before ++ front = c.in_ok-extend_from_slice.ensures.items in
    let whole : after ≡ text ++ front = items ∙ ap (λ own. own ++ front) (all_so_far c.args.self.now text c.if-self.false old.keeps) in
    let feeds : c.saturating_add-self.result ≡ line_feeds after =
    feeds_added before front after c.args.self.now.line_feeds c.line_feeds.result c.saturating_add-self.result (2 ^ 64 - 1) old.feeds
    c.line_feeds.ensures.value items c.saturating_add-self.ensures (omega (arith, c.extend_from_slice.new.self.ok)) in
    let told : c.is_told-self.result ≡ true → IsLineTold after = λ is. subst IsLineTold (sym items) (c.is_told-self.ensures before old.told is) in
    record {
      keeps = kept_if (record {
        extent = c.args.self.now.extent;
        bytes = c.extend_from_slice.new.self;
        is_line_told = c.is_told-self.result;
        line_feeds = c.saturating_add-self.result;
        is_enough = c.is_enough-self.result;
      }) (text ++ front) whole (rw c.deref.ensures.value at c.is_enough-self.ensures feeds told);
      is_text = subst IsUtf8 (sym items) (IsUtf8-append before front old.is_text is_text);
      told = told;
      feeds = feeds;
    }
