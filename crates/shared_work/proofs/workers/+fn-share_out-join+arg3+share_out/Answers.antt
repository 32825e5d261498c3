use Rattle.std.proofs.Common.{[]}
use Rattle.shared_work.proofs.WorkerLemmas.{same_again}
use Rattle.shared_work.proofs.workers.+fn-share_out-join+arg3+share_out.Goals as goal

pub returns-clause-same : goal.returns-clause-same
returns-clause-same g t c =
    let forks = c.in-Some.ensures.new.1 in
    let mine = c.join-theirs.ensures.second.1 in
    let theirs = c.join-theirs.ensures.first.1 in
    let met = c.take_in.ensures.met in
    same_again c.args.worker c.fork.new.worker c.in-Some.other c.join-theirs.result.1 c.join-theirs.result.0 c.take_in.result forks mine theirs met
    (c.split_and_merged.ensures _ _ _ _ _ _ [] [] forks.left_books forks.right_books mine.out theirs.out met.books)
