-- No word is two verbs.
use Rattle.std.proofs.Common.{◌≡◌, ◌∙◌, ℕ, List, true, false, ap, refl, sym}
use Rattle.std.specs.Prelude.{codes}
use Rattle.std.specs.Str.{bytes_eq}
use Rattle.gossip_events.specs.Scripts.{verb_word}
use Rattle.gossip_events.specs.declared.verb.EventVerb.{EventVerb}
use Rattle.gossip_events.specs.declared.verb.EventVerb.TheVariants.{Make, Retire, Send, Deliver, Merge, Keep, Restart}

no_clash : true ≡ false → ⊥
no_clash e = cc

-- two texts that a comparison tells apart
apart : (a b : List ℕ) → bytes_eq a a ≡ true → bytes_eq b a ≡ false → a ≡ b → ⊥
apart a b one other same = no_clash (sym one ∙ ap (λ w. bytes_eq w a) same ∙ other)

pub one_verb : (a b : EventVerb) → verb_word a ≡ verb_word b → a ≡ b
one_verb Make Make same = refl
one_verb Make Retire same = absurd (apart (codes "make") (codes "retire") refl refl same)
one_verb Make Send same = absurd (apart (codes "make") (codes "send") refl refl same)
one_verb Make Deliver same = absurd (apart (codes "make") (codes "deliver") refl refl same)
one_verb Make Merge same = absurd (apart (codes "make") (codes "merge") refl refl same)
one_verb Make Keep same = absurd (apart (codes "make") (codes "keep") refl refl same)
one_verb Make Restart same = absurd (apart (codes "make") (codes "restart") refl refl same)
one_verb Retire Make same = absurd (apart (codes "retire") (codes "make") refl refl same)
one_verb Retire Retire same = refl
one_verb Retire Send same = absurd (apart (codes "retire") (codes "send") refl refl same)
one_verb Retire Deliver same = absurd (apart (codes "retire") (codes "deliver") refl refl same)
one_verb Retire Merge same = absurd (apart (codes "retire") (codes "merge") refl refl same)
one_verb Retire Keep same = absurd (apart (codes "retire") (codes "keep") refl refl same)
one_verb Retire Restart same = absurd (apart (codes "retire") (codes "restart") refl refl same)
one_verb Send Make same = absurd (apart (codes "send") (codes "make") refl refl same)
one_verb Send Retire same = absurd (apart (codes "send") (codes "retire") refl refl same)
one_verb Send Send same = refl
one_verb Send Deliver same = absurd (apart (codes "send") (codes "deliver") refl refl same)
one_verb Send Merge same = absurd (apart (codes "send") (codes "merge") refl refl same)
one_verb Send Keep same = absurd (apart (codes "send") (codes "keep") refl refl same)
one_verb Send Restart same = absurd (apart (codes "send") (codes "restart") refl refl same)
one_verb Deliver Make same = absurd (apart (codes "deliver") (codes "make") refl refl same)
one_verb Deliver Retire same = absurd (apart (codes "deliver") (codes "retire") refl refl same)
one_verb Deliver Send same = absurd (apart (codes "deliver") (codes "send") refl refl same)
one_verb Deliver Deliver same = refl
one_verb Deliver Merge same = absurd (apart (codes "deliver") (codes "merge") refl refl same)
one_verb Deliver Keep same = absurd (apart (codes "deliver") (codes "keep") refl refl same)
one_verb Deliver Restart same = absurd (apart (codes "deliver") (codes "restart") refl refl same)
one_verb Merge Make same = absurd (apart (codes "merge") (codes "make") refl refl same)
one_verb Merge Retire same = absurd (apart (codes "merge") (codes "retire") refl refl same)
one_verb Merge Send same = absurd (apart (codes "merge") (codes "send") refl refl same)
one_verb Merge Deliver same = absurd (apart (codes "merge") (codes "deliver") refl refl same)
one_verb Merge Merge same = refl
one_verb Merge Keep same = absurd (apart (codes "merge") (codes "keep") refl refl same)
one_verb Merge Restart same = absurd (apart (codes "merge") (codes "restart") refl refl same)
one_verb Keep Make same = absurd (apart (codes "keep") (codes "make") refl refl same)
one_verb Keep Retire same = absurd (apart (codes "keep") (codes "retire") refl refl same)
one_verb Keep Send same = absurd (apart (codes "keep") (codes "send") refl refl same)
one_verb Keep Deliver same = absurd (apart (codes "keep") (codes "deliver") refl refl same)
one_verb Keep Merge same = absurd (apart (codes "keep") (codes "merge") refl refl same)
one_verb Keep Keep same = refl
one_verb Keep Restart same = absurd (apart (codes "keep") (codes "restart") refl refl same)
one_verb Restart Make same = absurd (apart (codes "restart") (codes "make") refl refl same)
one_verb Restart Retire same = absurd (apart (codes "restart") (codes "retire") refl refl same)
one_verb Restart Send same = absurd (apart (codes "restart") (codes "send") refl refl same)
one_verb Restart Deliver same = absurd (apart (codes "restart") (codes "deliver") refl refl same)
one_verb Restart Merge same = absurd (apart (codes "restart") (codes "merge") refl refl same)
one_verb Restart Keep same = absurd (apart (codes "restart") (codes "keep") refl refl same)
one_verb Restart Restart same = refl
