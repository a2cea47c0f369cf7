use Rattle.bounds_laws.proofs.InViews.{arguments_lie_in_views}
use Rattle.bounds_laws.proofs.consumer_laws.arguments_lie_in_views.Goals as goal

pub returns : goal.returns
returns c = arguments_lie_in_views
