use Rattle.bounds_laws.proofs.ConsumerArguments.{consumer_arguments_lie}
use Rattle.bounds_laws.proofs.consumer_laws.consumer_arguments_lie.Goals as goal

pub returns : goal.returns
returns c = consumer_arguments_lie
