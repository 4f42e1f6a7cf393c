use Rattle.stencil_kernels.proofs.separable.find_greatest_common_factor.Given as goal

abbrev pub decreases-loop-b : goal.decreases-loop-b
decreases-loop-b l = l.b
