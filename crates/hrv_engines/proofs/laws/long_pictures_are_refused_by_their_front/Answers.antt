use Rattle.hrv_engines.proofs.PictureFronts.{picture_length, same_answer}
use Rattle.hrv_engines.proofs.laws.long_pictures_are_refused_by_their_front.Goals as goal

pub returns-clause-refused : goal.returns-clause-refused
returns-clause-refused c = picture_length

pub returns-clause-alike : goal.returns-clause-alike
returns-clause-alike c = same_answer
