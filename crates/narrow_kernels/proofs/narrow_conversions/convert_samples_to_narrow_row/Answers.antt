use Rattle.narrow_kernels.proofs.narrow_conversions.convert_samples_to_narrow_row.Goals as goal

pub copy_samples_to_narrow_row-requires-clause-small : goal.copy_samples_to_narrow_row-requires-clause-small
copy_samples_to_narrow_row-requires-clause-small c = rw c.in-Words.is at c.requires.small

pub copy_samples_to_narrow_row-requires-in-1-clause-small : goal.copy_samples_to_narrow_row-requires-in-1-clause-small
copy_samples_to_narrow_row-requires-in-1-clause-small c = rw c.in-Bytes.is at c.requires.small

pub copy_samples_to_narrow_row-requires-in-3-clause-small : goal.copy_samples_to_narrow_row-requires-in-3-clause-small
copy_samples_to_narrow_row-requires-in-3-clause-small c = rw c.in-Bytes.is at c.requires.small

pub copy_samples_to_narrow_row-requires-in_default-clause-small : goal.copy_samples_to_narrow_row-requires-in_default-clause-small
copy_samples_to_narrow_row-requires-in_default-clause-small c = rw c.in-Bytes.is at c.requires.small

pub copy_samples_to_narrow_row-requires-in-2-clause-small : goal.copy_samples_to_narrow_row-requires-in-2-clause-small
copy_samples_to_narrow_row-requires-in-2-clause-small c = rw c.in-Pairs.is at c.requires.small

pub copy_samples_to_narrow_row-requires-in-6-clause-small : goal.copy_samples_to_narrow_row-requires-in-6-clause-small
copy_samples_to_narrow_row-requires-in-6-clause-small c = rw c.in-Pairs.is at c.requires.small

pub copy_samples_to_narrow_row-requires-in_default-step-clause-small : goal.copy_samples_to_narrow_row-requires-in_default-step-clause-small
copy_samples_to_narrow_row-requires-in_default-step-clause-small c = rw c.in-Pairs.is at c.requires.small
