use Rattle.std.proofs.Common.{List, subst, sym, ◌∙◌, map, ap, ◌∷◌, []}
use Rattle.std.proofs.lemmas.List.{map-append}
use Rattle.catalog.specs.Entries.{Entry, entry_of, IsCatalog}
use Rattle.catalog.specs.Refusals.{IsAdmitted}
use Rattle.catalog.proofs.Standing.{catalog_more}
use Rattle.catalog.proofs.catalog.Catalog.append_job.Goals as goal

pub invariant_of-self-2 : goal.invariant_of-self-2
invariant_of-self-2 c =
    let jobs = c.self.inside.jobs.items in
    let admitted = subst (λ (entries : List Entry). IsAdmitted entries (entry_of c.args.job)) (sym c.self.view_is) c.requires in
    let more = catalog_more (map entry_of jobs) (entry_of c.args.job) c.self.invariant admitted in
    subst IsCatalog (sym (ap (map entry_of) c.in_default.ensures.items ∙ map-append entry_of jobs (c.args.job ∷ []))) more
