use Rattle.task_code_values.proofs.Pointing.{zero-held}
use Rattle.task_code_values.proofs.Waiting.{slot-low, slot-makes}
use Rattle.task_code_values.proofs.frames.emit_slot.Goals as goal

pub returns : goal.returns
returns c =
    slot-makes c.args.scope.now c.args.frames c.args.word c.start_of.result c.slot_form-form.result c.in_ok-at.at _ _ c.start_of.ensures
    c.slot_form-form.ensures
    c.in_ok-at.ensures

pub slot_form-form-requires : goal.slot_form-form-requires
slot_form-form-requires c = slot-low c.args.frames c.args.word c.start_of.result c.start_of.ensures c.requires

pub emit_address-requires-clause-held : goal.emit_address-requires-clause-held
emit_address-requires-clause-held c = zero-held c.args.scope.now c.slot_form-form.result.sum c.slot_form-form.ensures.none
