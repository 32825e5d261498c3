-- One group less.
use Rattle.frame_model.proofs.head.+groups.Given as goal

abbrev pub decreases-groups : goal.decreases-groups
decreases-groups a = a.most
