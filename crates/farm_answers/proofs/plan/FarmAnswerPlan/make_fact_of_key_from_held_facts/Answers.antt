use Rattle.farm_answers.proofs.plan.FarmAnswerPlan.make_fact_of_key_from_held_facts.Goals as goal

pub returns-in-Ok-clause-is_true : goal.returns-in-Ok-clause-is_true
returns-in-Ok-clause-is_true c = c.in-Ok.ensures.right (λ f held has. c.requires.truth f held)
