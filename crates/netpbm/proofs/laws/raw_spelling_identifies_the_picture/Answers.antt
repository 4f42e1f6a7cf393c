-- The written form is read, and reading answers one thing alone.
use Rattle.std.proofs.Common.{List, ℕ, ◌∙◌, sym, subst}
use Rattle.netpbm.specs.Grammar.{IsPicture}
use Rattle.netpbm.specs.Spelling.{spelling}
use Rattle.netpbm.proofs.PictureLaws.{picture_complete}
use Rattle.netpbm.proofs.ReadLaws.{spelling_is, same_value}
use Rattle.netpbm.proofs.laws.raw_spelling_identifies_the_picture.Goals as goal

pub returns-clause-spelled : goal.returns-clause-spelled
returns-clause-spelled c = spelling_is

pub returns-clause-alone : goal.returns-clause-alone
returns-clause-alone c =
    λ p q i h. same_value q p (sym (picture_complete (spelling p) q h) ∙ picture_complete (spelling p) p (spelling_is p i))

pub returns-clause-apart : goal.returns-clause-apart
returns-clause-apart c = λ p q i j e.
    let h = subst (λ (bytes : List ℕ). IsPicture bytes q) (sym e) (spelling_is q j) in
    same_value p q (sym (picture_complete (spelling p) p (spelling_is p i)) ∙ picture_complete (spelling p) q h)
