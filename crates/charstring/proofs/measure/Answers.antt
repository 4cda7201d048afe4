-- `charstring::measure` meets its contract: the length so far is that of the tokens done.
use Rattle.std.proofs.Common.{ap, arith, sym, true, ◌-◌, ◌∙◌, ◌≡◌}
use Rattle.octets.specs.Octets.{Octets}
use Rattle.charstring.specs.Token.{more, token_at, lookup}
use Rattle.charstring.specs.Answers.{step_of, given_at}
use Rattle.charstring.specs.TokenLaws.{measurable}
use Rattle.charstring.specs.declared.MaskLen.{MaskLen}
use Rattle.charstring.specs.TokensLaws.{Next}
use Rattle.charstring.specs.EncodeLaws.{measuring_start, measuring_turn, measured_end, measured-cut, walk-next}
use Rattle.charstring.proofs.measure.Goals as goal
use Rattle.charstring.proofs.measure.Lts.View as view
use Rattle.charstring.proofs.measure.Goals.{After-next_token, At-loop-c, In-Some, In-loop-c}

-- the body's bytes
bytes : (c : At-loop-c) → Octets c.args.code.now
bytes c i = (c.type_inv.code i).fits

-- a token is left
going : (c : In-loop-c) → more c.args.code.now c.loop-c.c ≡ true
going c = sym c.more.ensures ∙ c.loop-c-test.true

-- what the step answered
stepped : (c : After-next_token)
    → c.next_token.result ≡ step_of (token_at c.args.code.now (given_at (lookup c.args.pairs.now) c.loop-c.c) c.loop-c.c)
stepped c =
    c.next_token.ensures ∙ ap (λ (g : MaskLen). step_of (token_at c.args.code.now g c.loop-c.c)) c.given_at-given.ensures

-- the token, and where it leads
nextly : (c : In-Some)
    → Next c.args.code.now c.loop-c.c (token_at c.args.code.now (lookup c.args.pairs.now (c.loop-c.c.at - 1)) c.loop-c.c)
    c.in-Some.token c.in-Some.next
nextly c =
    let w = c.loop-c.invariant.0 in
    walk-next (lookup c.args.pairs.now) c.args.code.now (bytes (view.up-At-loop-c _ _ _ _ _ c.before.before.before.before.before.before)) c.loop-c.c w.done w.walk (going (view.up-In-loop-c _ _ _ _ _ c.before.before.before.before)) _ (stepped (view.up-After-next_token _ _ _ _ _ c.before.before)) _ _ c.in-Some.is

pub loop-c-init : goal.loop-c-init
loop-c-init c = (measuring_start _ _ (λ i. (c.type_inv.code i).fits) _ c.start-c.ensures, c.requires)

pub next_token-requires : goal.next_token-requires
next_token-requires c = (c.loop-c.invariant.0.walk.within, going (goal.at.next_token-requires c).In-loop-c)

pub token_len-len-requires : goal.token_len-len-requires
token_len-len-requires c = measurable c.args.code.now c.in-Some.token (nextly c).writable

pub overflow_add-len : goal.overflow_add-len
overflow_add-len c = let m = measuring_turn (lookup c.args.pairs.now) c.args.code.now (bytes (goal.at.overflow_add-len c).At-loop-c) c.loop-c.c (going (goal.at.overflow_add-len c).In-loop-c) _ (stepped (goal.at.overflow_add-len c).After-next_token) _ c.loop-c.invariant.0 _ _ c.in-Some.is _ c.token_len-len.ensures in omega (arith, m.small, m.walk.within.inside, c.loop-c.invariant.1)

pub loop-c-smaller : goal.loop-c-smaller
loop-c-smaller c = (nextly (goal.at.loop-c-smaller c).In-Some).moves.shorter

pub loop-c-preserved : goal.loop-c-preserved
loop-c-preserved c = (measuring_turn (lookup c.args.pairs.now) c.args.code.now (bytes (goal.at.loop-c-preserved c).At-loop-c) c.loop-c.c (going (goal.at.loop-c-preserved c).In-loop-c) _ (stepped (goal.at.loop-c-preserved c).After-next_token) _ c.loop-c.invariant.0 _ _ c.in-Some.is _ c.token_len-len.ensures, c.loop-c.invariant.1)

pub returns-in-None : goal.returns-in-None
returns-in-None c = measured-cut (lookup c.args.pairs.now) c.args.code.now (bytes (goal.at.returns-in-None c).At-loop-c) c.loop-c.c (going (goal.at.returns-in-None c).In-loop-c) _ (stepped (goal.at.returns-in-None c).After-next_token) _ c.loop-c.invariant.0 c.in-None.is

pub returns : goal.returns
returns c = measured_end (lookup c.args.pairs.now) c.args.code.now (bytes (goal.at.returns c).At-loop-c) c.loop-c.c _ c.loop-c.invariant.0 (sym c.more.ensures ∙ c.loop-c-test.false)
