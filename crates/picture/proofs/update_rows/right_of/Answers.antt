use Rattle.picture.proofs.update_rows.right_of.Goals as goal

pub returns : goal.returns
returns c =
    let is = rw c.in-Some-2.is at c.in_ok-row.ensures in
    record { len = is.len; each = λ plane at less. is.each plane tt at less }
