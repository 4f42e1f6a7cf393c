use Rattle.std.proofs.Common.{◌≡◌, ◌<◌, ◌-◌, ℕ, List, length, take, drop, Ok, sym, ap, ◌∙◌, arith}
use Rattle.std.proofs.lemmas.List.{take_all, length-drop}
use Rattle.std.specs.Prelude.{codes}
use Rattle.tile_fact.proofs.MagicLaws.{magic_step, magic_differs, magic_ends, magic_all}
use Rattle.tile_fact.proofs.head.check_and_skip_fact_file_magic.Goals as goal

pub returns-then-at-bytes-clause-read : goal.returns-then-at-bytes-clause-read
returns-then-at-bytes-clause-read c = sym c.loop-at.invariant.1 ∙ magic_ends (codes "PTF") c.args.bytes.now c.loop-at.at (omega arith) (omega arith)

pub returns-then-bytes-at-clause-read : goal.returns-then-bytes-at-clause-read
returns-then-bytes-at-clause-read c =
    let in_bytes : c.loop-at.at < length c.args.bytes.now = omega (arith, c.loop-at.invariant.0) in
    sym c.loop-at.invariant.1 ∙ magic_differs (codes "PTF") c.args.bytes.now c.loop-at.at (omega arith) in_bytes c.if-bytes-at.true

pub loop-at-preserved : goal.loop-at-preserved
loop-at-preserved c =
    let in_bytes : c.loop-at.at < length c.args.bytes.now = omega (arith, c.loop-at.invariant.0) in
    (omega arith, sym (magic_step (codes "PTF") c.args.bytes.now c.loop-at.at (omega arith) in_bytes c.if-bytes-at.false) ∙ c.loop-at.invariant.1)

pub returns-clause-read : goal.returns-clause-read
returns-clause-read c =
    let bytes = c.args.bytes.now in
    let three : c.loop-at.at ≡ 3 = omega arith in
    let all : take (length bytes - 3) (drop 3 bytes) ≡ drop 3 bytes =
    take_all (length bytes - 3) (drop 3 bytes) (omega (arith, length-drop 3 bytes)) in
    sym c.loop-at.invariant.1 ∙ magic_all (codes "PTF") bytes c.loop-at.at (omega arith) ∙ ap (λ (n : ℕ). Ok (drop n bytes)) three
    ∙ ap (λ (l : List ℕ). Ok l) (sym all)
