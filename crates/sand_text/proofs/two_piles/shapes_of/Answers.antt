use Rattle.sand_text.proofs.Common.{arith, ◌≡◌, ◌+◌, ◌≤◌, false, length, refl, sum, true, err_from_is_err_and, sites, tokens, behind_heights, heights_behind, IsShaped, usual}
use Rattle.sand_text.specs.Reading.{two_of}
use Rattle.sand_text.proofs.Readings.{one_each}
use Rattle.sand_text.proofs.TwoPiles.{misshapen_second, good_two, second_facts}
use Rattle.sand_text.proofs.two_piles.shapes_of.Goals.{In_ok-first_shape, In_ok-second_shape}
use Rattle.sand_text.proofs.two_piles.shapes_of.Goals as goal

pub returns-in_err-first-clause-err : goal.returns-in_err-first-clause-err
unfolding two_of
returns-in_err-first-clause-err c = grind (arith, usual, err_from_is_err_and)

pub returns-in_err-first_shape-clause-err : goal.returns-in_err-first_shape-clause-err
unfolding two_of
returns-in_err-first_shape-clause-err c =
    let p =
    err_from_is_err_and c.from_residual-in_err-first_shape.result c.from_residual-in_err-first_shape.ensures.1 in
    let (rest, front, second) = c.in_ok-first.ensures.piles in
    let err = c.in_err-first_shape.ensures.err (tokens c.args.text.now) rest front.underway front.end in
    rw (p.1, p.2) (rw (c.in_ok-first.ensures.plain, err) refl)

first_is : (c : In_ok-first_shape) → IsShaped false (length c.args.text.now) (tokens c.args.text.now)
    c.in_ok-first.first c.in_ok-first_shape.first_shape
first_is c =
    let (rest, front, second) = c.in_ok-first.ensures.piles in
    c.in_ok-first_shape.ensures.ok (tokens c.args.text.now) rest front.underway front.end

second_is : (c : In_ok-second_shape) → IsShaped true (length c.args.text.now) c.in_ok-first.ensures.piles.0
    c.in_ok-first.second c.in_ok-second_shape.second_shape
second_is c =
    let (rest, front, second) = c.in_ok-first.ensures.piles in c.in_ok-second_shape.ensures.ok rest _ second refl

second_in_text : (c : In_ok-second_shape)
    → IsShaped false (length c.args.text.now) (tokens c.args.text.now)
    c.in_ok-first.first c.in_ok-first_shape.first_shape
    → let g = c.in_ok-first_shape.first_shape in
    let k = c.in_ok-second_shape.second_shape in
    let text = c.args.text.now in
    (2 + sites k ≤ length (behind_heights g text)) × (length (heights_behind g k text) ≡ sites k)
    × (c.in_ok-first.second.grains ≡ sum (heights_behind g k text))
second_in_text c first =
    let (rest, front, second) = c.in_ok-first.ensures.piles in
    second_facts c.args.text.now rest c.in_ok-first.first c.in_ok-first.second c.in_ok-first_shape.first_shape
    c.in_ok-second_shape.second_shape front first (second_is c)

pub returns-in_err-second_shape-clause-err : goal.returns-in_err-second_shape-clause-err
returns-in_err-second_shape-clause-err c =
    let p =
    err_from_is_err_and c.from_residual-in_err-second_shape.result c.from_residual-in_err-second_shape.ensures.1 in
    let (rest, front, second) = c.in_ok-first.ensures.piles in
    let err = c.in_err-second_shape.ensures.err rest _ second refl in
    rw (p.1, p.2) (misshapen_second c.args.text.now rest c.in_ok-first.first c.in_ok-first_shape.first_shape
    c.in_err-second_shape.field-0.0 c.in_ok-first.ensures.plain front
    (first_is (goal.at.returns-in_err-second_shape-clause-err c).In_ok-first_shape) err)

pub returns-clause-piles : goal.returns-clause-piles
returns-clause-piles c =
    let at = goal.at.returns-clause-piles c in
    let (rest, front, second) = c.in_ok-first.ensures.piles in
    good_two c.args.text.now rest c.in_ok-first.first c.in_ok-first.second c.in_ok-first_shape.first_shape
    c.in_ok-second_shape.second_shape c.in_ok-first.ensures.plain front
    (first_is at.In_ok-first_shape) (second_is at.In_ok-second_shape)

pub returns-clause-enough : goal.returns-clause-enough
returns-clause-enough c =
    let at = goal.at.returns-clause-enough c in
    ((first_is at.In_ok-first_shape).enough, (second_in_text at.In_ok-second_shape (first_is at.In_ok-first_shape)).0)

pub returns-clause-len : goal.returns-clause-len
returns-clause-len c =
    let at = goal.at.returns-clause-len c in (
      one_each _ _ (tokens c.args.text.now) c.in_ok-first.first c.in_ok-first_shape.first_shape
          (first_is at.In_ok-first_shape),
      (second_in_text at.In_ok-second_shape (first_is at.In_ok-first_shape)).1,
    )

pub returns-clause-grains : goal.returns-clause-grains
returns-clause-grains c =
    let at = goal.at.returns-clause-grains c in
    ((first_is at.In_ok-first_shape).grains, (second_in_text at.In_ok-second_shape (first_is at.In_ok-first_shape)).2)

pub returns-clause-limit : goal.returns-clause-limit
returns-clause-limit c =
    let at = goal.at.returns-clause-limit c in
    ((first_is at.In_ok-first_shape).limit, (second_is at.In_ok-second_shape).limit)
