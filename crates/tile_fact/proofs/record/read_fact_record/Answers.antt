use Rattle.std.proofs.Common.{arith}
use Rattle.tile_fact.proofs.PartLaws.{part_takes}
use Rattle.tile_fact.proofs.RecordLaws.{length_takes, body_within, most_bytes, part_shorter, kind_shorter, length_shorter}
use Rattle.tile_fact.proofs.record.read_fact_record.Goals as goal

pub decode_fact_key-key-requires : goal.decode_fact_key-key-requires
decode_fact_key-key-requires c = (part_takes c.args.total 74 c.args.bytes.now _ _ c.in_ok-part.ensures).len_is

pub read_fact_body_kind-requires : goal.read_fact_body_kind-requires
read_fact_body_kind-requires c = omega (arith, part_shorter _ _ _ _ (part_takes c.args.total 74 c.args.bytes.now _ _ c.in_ok-part.ensures))

pub read_fact_body_number_count-requires : goal.read_fact_body_number_count-requires
read_fact_body_number_count-requires c =
    omega (
      arith,
      part_shorter _ _ _ _ (part_takes c.args.total 74 c.args.bytes.now _ _ c.in_ok-part.ensures),
      kind_shorter c.args.total _ _ _ c.in_ok-kind.ensures,
    )

pub overflow_mul-len : goal.overflow_mul-len
overflow_mul-len c =
    let fits = (length_takes c.args.total c.in_ok-kind.kind _ c.in_ok-len.len _ c.in_ok-len.ensures).1 in
    rw c.count_bytes_of_one_number.ensures (record { fits = most_bytes c.in_ok-kind.kind c.in_ok-len.len fits })

pub returns-clause-within : goal.returns-clause-within
returns-clause-within c =
    let fits = (length_takes c.args.total c.in_ok-kind.kind _ c.in_ok-len.len _ c.in_ok-len.ensures).1 in
    let part = part_takes c.args.total _ _ _ _ c.in_ok-numbers.ensures in
    body_within c.in_ok-kind.kind c.in_ok-numbers.numbers.now c.in_ok-len.len (rw (← c.count_bytes_of_one_number.ensures) part.len_is) fits

pub returns-clause-behind : goal.returns-clause-behind
returns-clause-behind c =
    omega (
      arith,
      part_shorter _ _ _ _ (part_takes c.args.total 74 c.args.bytes.now _ _ c.in_ok-part.ensures),
      kind_shorter c.args.total _ _ _ c.in_ok-kind.ensures,
      length_shorter c.args.total c.in_ok-kind.kind _ _ _ c.in_ok-len.ensures,
      part_shorter _ _ _ _ (part_takes c.args.total _ _ _ _ c.in_ok-numbers.ensures),
    )
