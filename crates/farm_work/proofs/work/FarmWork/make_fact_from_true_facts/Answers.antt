use Rattle.std.proofs.Common.{sym, subst, List}
use Rattle.catalog.specs.Entries.{Entry}
use Rattle.fact_audit.specs.TrueFacts.{IsTrueFact}
use Rattle.farm_work.proofs.work.FarmWork.make_fact_from_true_facts.Goals as goal

pub returns-in-Ok-clause-is_true : goal.returns-in-Ok-clause-is_true
returns-in-Ok-clause-is_true g c =
    let named = c.args.self.now.named in
    subst (λ (catalog : List Entry). IsTrueFact catalog c.in-Ok.fact) named
    (c.in-Ok.ensures.right
    (λ f held has. subst (λ (catalog : List Entry). IsTrueFact catalog f) (sym named)
    (c.in_ok-held.ensures.is_true g.C.NamedCatalog.catalog c.requires f held)))
