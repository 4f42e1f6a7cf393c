use Rattle.std.proofs.Common.{subst}
use Rattle.catalog.specs.Entries.{Entry}
use Rattle.catalog.specs.Refusals.{IsAdmitted, IsRefusal}
use Rattle.catalog.proofs.Standing.{same_entry}
use Rattle.catalog.proofs.catalog.Catalog.admit.Goals as goal

pub returns-in-Some-clause-refused : goal.returns-in-Some-clause-refused
returns-in-Some-clause-refused c =
    subst (λ (entry : Entry). IsRefusal c.args.self.now entry c.in-Some.fault)
    (same_entry c.cache_input_id.new.self c.args.job c.cache_input_id.ensures.pipeline c.cache_input_id.ensures.text) c.in-Some.ensures.some

pub returns-in-Ok-clause-admitted : goal.returns-in-Ok-clause-admitted
returns-in-Ok-clause-admitted c =
    subst (λ (entry : Entry). IsAdmitted c.args.self.now entry)
    (same_entry c.cache_input_id.new.self c.args.job c.cache_input_id.ensures.pipeline c.cache_input_id.ensures.text) c.in_default.ensures.none

pub returns-in-Err-clause-refused : goal.returns-in-Err-clause-refused
returns-in-Err-clause-refused c =
    subst (λ (entry : Entry). IsAdmitted c.args.self.now entry)
    (same_entry c.cache_input_id.new.self c.args.job c.cache_input_id.ensures.pipeline c.cache_input_id.ensures.text) c.in_default.ensures.none
