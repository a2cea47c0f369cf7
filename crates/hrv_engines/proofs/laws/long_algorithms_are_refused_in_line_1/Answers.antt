use Rattle.hrv_engines.proofs.AlgorithmFronts.{refused_in_line_1, same_answer}
use Rattle.hrv_engines.proofs.laws.long_algorithms_are_refused_in_line_1.Goals as goal

pub returns-clause-refused : goal.returns-clause-refused
returns-clause-refused c = refused_in_line_1

pub returns-clause-alike : goal.returns-clause-alike
returns-clause-alike c = same_answer
