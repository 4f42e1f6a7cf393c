use Rattle.normal_jobs.proofs.splitting.+split_normal_job_in_rounds.Given as goal

abbrev pub decreases-split_normal_job_in_rounds : goal.decreases-split_normal_job_in_rounds
decreases-split_normal_job_in_rounds l = l.rounds
