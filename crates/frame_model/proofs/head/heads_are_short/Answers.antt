-- By the laws of each framing's heads.
use Rattle.frame_model.proofs.HeadLemmas.{first_bytes_tell}
use Rattle.frame_model.proofs.head.heads_are_short.Goals as goal

pub returns : goal.returns
returns c = first_bytes_tell
