use Rattle.contents.proofs.Normal.{means_same}
use Rattle.contents.proofs.normal_data_mean_the_same.Goals as goal

pub returns : goal.returns
returns c = means_same
