-- `charstring::put_body` meets its contract: the tokens done stand in the output; a cut body is excluded.
use Rattle.std.proofs.Common.{ap, refl, sym, true, ◌-◌, ◌∙◌, ◌≡◌}
use Rattle.octets.specs.Octets.{Octets}
use Rattle.charstring.specs.Token.{more, token_at, lookup}
use Rattle.charstring.specs.Answers.{step_of, given_at}
use Rattle.charstring.specs.declared.MaskLen.{MaskLen}
use Rattle.charstring.specs.TokensLaws.{Next}
use Rattle.charstring.specs.EncodeLaws.{writing_start, writing-room, writing-turn, writing-cut, written_end, walk-next}
use Rattle.charstring.proofs.put_body.Goals as goal
use Rattle.charstring.proofs.put_body.Lts.View as view
use Rattle.charstring.proofs.put_body.Goals.{After-next_token, At-loop-c, In-Some, In-loop-c}

-- the body's bytes
bytes : (c : At-loop-c) → Octets c.args.code.now
bytes c i = (c.type_inv.code i).fits

-- a token is left
going : (c : In-loop-c) → more c.args.code.now c.loop-c.c ≡ true
going c = sym c.more.ensures ∙ c.loop-c-test.true

-- what the step answered
stepped : (c : After-next_token)
    → c.next_token.result ≡ step_of (token_at c.args.code.now (given_at (lookup c.args.pairs.now) c.loop-c.c) c.loop-c.c)
stepped c =
    c.next_token.ensures ∙ ap (λ (g : MaskLen). step_of (token_at c.args.code.now g c.loop-c.c)) c.given_at-given.ensures

-- the token, and where it leads
nextly : (c : In-Some)
    → Next c.args.code.now c.loop-c.c (token_at c.args.code.now (lookup c.args.pairs.now (c.loop-c.c.at - 1)) c.loop-c.c)
    c.in-Some.token c.in-Some.next
nextly c =
    let w = c.loop-c.invariant.0 in
    walk-next (lookup c.args.pairs.now) c.args.code.now (bytes (view.up-At-loop-c _ _ _ _ _ c.before.before.before.before.before.before)) c.loop-c.c w.done w.walk (going (view.up-In-loop-c _ _ _ _ _ c.before.before.before.before)) _ (stepped (view.up-After-next_token _ _ _ _ _ c.before.before)) _ _ c.in-Some.is

pub loop-c-init : goal.loop-c-init
loop-c-init c = (writing_start _ _ (λ i. (c.type_inv.code i).fits) _ _ _ c.start-c.ensures, refl, refl)

pub next_token-requires : goal.next_token-requires
next_token-requires c = (c.loop-c.invariant.0.walk.within, going (goal.at.next_token-requires c).In-loop-c)

pub put_token-requires : goal.put_token-requires
put_token-requires c = ((nextly (goal.at.put_token-requires c).In-Some).writable, writing-room (lookup c.args.pairs.now) c.args.code.now (bytes (goal.at.put_token-requires c).At-loop-c) c.loop-c.c (going (goal.at.put_token-requires c).In-loop-c) _ (stepped (goal.at.put_token-requires c).After-next_token) _ _ _ _ c.loop-c.invariant.0 c.requires.0 c.requires.1 _ _ c.in-Some.is)

pub loop-c-smaller : goal.loop-c-smaller
loop-c-smaller c = (nextly (goal.at.loop-c-smaller c).In-Some).moves.shorter

pub loop-c-preserved : goal.loop-c-preserved
loop-c-preserved c = (writing-turn (lookup c.args.pairs.now) c.args.code.now (bytes (goal.at.loop-c-preserved c).At-loop-c) c.loop-c.c (going (goal.at.loop-c-preserved c).In-loop-c) _ (stepped (goal.at.loop-c-preserved c).After-next_token) _ _ _ _ c.loop-c.invariant.0 c.requires.0 c.requires.1 _ _ c.in-Some.is _ _ c.put_token.ensures.wrote, c.put_token.ensures.same ∙ c.loop-c.invariant.1, c.put_token.ensures.size ∙ c.loop-c.invariant.2)

pub returns-in-None : goal.returns-in-None
returns-in-None c = absurd (writing-cut (lookup c.args.pairs.now) c.args.code.now (bytes (goal.at.returns-in-None c).At-loop-c) c.loop-c.c (going (goal.at.returns-in-None c).In-loop-c) _ (stepped (goal.at.returns-in-None c).After-next_token) _ _ _ _ c.loop-c.invariant.0 c.requires.0 c.requires.1 c.in-None.is)

pub returns : goal.returns
returns c = record { wrote = written_end (lookup c.args.pairs.now) c.args.code.now (bytes (goal.at.returns c).At-loop-c) _ _ c.loop-c.c _ _ c.loop-c.invariant.0 (sym c.more.ensures ∙ c.loop-c-test.false); same = c.loop-c.invariant.1; size = c.loop-c.invariant.2 }
