use Rattle.std.proofs.Common.{◌∙◌, sym}
use Rattle.std.specs.String.{string_bytes}
use Rattle.hrv_engines.proofs.TalkSteps.{begins, kept_on, kept_over, kept_rest}
use Rattle.hrv_engines.proofs.talks.Talk.take.Goals as goal

pub lines-init : goal.lines-init
lines-init c = begins c.args.self.now.session.state c.args.self.now.unended.items c.args.bytes.now (string_bytes c.args.text.now) c.requires

pub lines-preserved : goal.lines-preserved
lines-preserved c =
    let on = kept_on c.args.self.now.session.state c.args.self.now.unended.items c.args.bytes.now c.lines.self.session.state c.lines.self.unended.items
    c.lines.rest.now
    (string_bytes c.args.text.now) (string_bytes c.lines.text) c.in-Some.line.now c.in-Some.others.now c.answer_line.new.session.state
    (string_bytes c.answer_line.new.text) c.keep.new.line.items
    c.lines.invariant c.in-Some.ensures.parts.0 c.in-Some.ensures.parts.1 c.in_ok-keep.ensures
    (rw c.deref.ensures.value at c.in_ok-answer_line.ensures.text)
    (rw c.deref.ensures.value at c.in_ok-answer_line.ensures.next)
    (sym c.if-branch.false ∙ (rw c.deref.ensures.value at c.in_ok-answer_line.ensures.last)) in
    rw c.clear.ensures.items on

pub returns-then-branch : goal.returns-then-branch
returns-then-branch c =
    kept_over c.args.self.now.session.state c.args.self.now.unended.items c.args.bytes.now c.lines.self.session.state c.lines.self.unended.items
    c.lines.rest.now
    (string_bytes c.args.text.now) (string_bytes c.lines.text) c.in-Some.line.now c.in-Some.others.now (string_bytes c.answer_line.new.text)
    c.keep.new.line.items
    c.lines.invariant c.in-Some.ensures.parts.0 c.in-Some.ensures.parts.1 c.in_ok-keep.ensures
    (rw c.deref.ensures.value at c.in_ok-answer_line.ensures.text)
    (sym c.if-branch.true ∙ (rw c.deref.ensures.value at c.in_ok-answer_line.ensures.last))

pub returns : goal.returns
returns c =
    kept_rest c.args.self.now.session.state c.args.self.now.unended.items c.args.bytes.now c.lines.self.session.state c.lines.self.unended.items
    c.lines.rest.now (string_bytes c.args.text.now) (string_bytes c.lines.text) c.keep-2.new.line.items
    c.lines.invariant c.in_default.ensures.parts c.in_ok-keep-2.ensures
