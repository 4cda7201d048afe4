-- `of_tokens` meets its contract: the tokens done stand in the output, after 1; a cut body leaves 0 there.
use Rattle.std.proofs.Common.{ap, arith, sym, true, ℕ, ◌∙◌, ◌≡◌}
use Rattle.octets.specs.Octets.{Octets}
use Rattle.charstring.specs.Token.{more, token_at, lookup}
use Rattle.charstring.specs.Answers.{step_of, given_at}
use Rattle.charstring.specs.TokenLaws.{measurable}
use Rattle.charstring.specs.TokensLaws.{Next}
use Rattle.charstring.specs.declared.MaskLen.{MaskLen}
use Rattle.charstring_cases.specs.StreamLaws.{listing_start, listing-next, listing-turn, listing-cut, listing_end}
use Rattle.charstring_cases.proofs.of_tokens.Goals as goal
use Rattle.charstring_cases.proofs.of_tokens.Lts.View as view
use Rattle.charstring_cases.proofs.of_tokens.Goals.{After-next_token, At-loop-c, In-Some, In-loop-c}

abbrev given_of : At-loop-c → ℕ → MaskLen
given_of c = lookup c.args.pairs.now

-- the body's bytes
bytes : (c : At-loop-c) → Octets c.args.code.now
bytes c i = (c.type_inv.code i).fits

-- a token is left
going : (c : In-loop-c) → more c.args.code.now c.loop-c.c ≡ true
going c = sym c.more.ensures ∙ c.loop-c-test.true

-- what the step answered
stepped : (c : After-next_token)
    → (c.next_token.result ≡ step_of (token_at c.args.code.now (given_at (given_of (view.up-At-loop-c _ _ _ _ _ c.before.before.before.before.before)) c.loop-c.c) c.loop-c.c))
stepped c =
    c.next_token.ensures ∙ ap (λ (g : MaskLen). step_of (token_at c.args.code.now g c.loop-c.c)) c.given_at-given.ensures

-- the token, and where it leads
next : (c : In-Some)
    → (Next c.args.code.now c.loop-c.c (token_at c.args.code.now (given_at (given_of (view.up-At-loop-c _ _ _ _ _ c.before.before.before.before.before.before)) c.loop-c.c) c.loop-c.c) c.in-Some.token c.in-Some.next)
next c =
    listing-next (given_of (view.up-At-loop-c _ _ _ _ _ c.before.before.before.before.before.before)) c.args.code.now (bytes (view.up-At-loop-c _ _ _ _ _ c.before.before.before.before.before.before)) c.loop-c.c c.loop-c.answer (going (view.up-In-loop-c _ _ _ _ _ c.before.before.before.before)) _ (stepped (view.up-After-next_token _ _ _ _ _ c.before.before)) c.loop-c.invariant.within _ _ c.in-Some.is

pub loop-c-init : goal.loop-c-init
loop-c-init c = listing_start _ _ (λ i. (c.type_inv.code i).fits) _ c.start-c.ensures _ c.one-answer.ensures c.requires

pub next_token-requires : goal.next_token-requires
next_token-requires c = (c.loop-c.invariant.within, going (goal.at.next_token-requires c).In-loop-c)

pub put_token-requires : goal.put_token-requires
put_token-requires c = (measurable c.args.code.now c.in-Some.token (next (goal.at.put_token-requires c).In-Some).writable, omega (arith, (next (goal.at.put_token-requires c).In-Some).moves.shorter, c.loop-c.invariant.room))

pub loop-c-smaller : goal.loop-c-smaller
loop-c-smaller c = (next (goal.at.loop-c-smaller c).In-Some).moves.shorter

pub loop-c-preserved : goal.loop-c-preserved
loop-c-preserved c =
    let g = going (goal.at.loop-c-preserved c).In-loop-c in
    let e = stepped (goal.at.loop-c-preserved c).After-next_token in
    listing-turn (given_of (goal.at.loop-c-preserved c).At-loop-c) c.args.code.now (bytes (goal.at.loop-c-preserved c).At-loop-c) c.loop-c.c c.loop-c.answer g _ e c.loop-c.invariant _ _ c.in-Some.is _ c.put_token.ensures

pub returns-in-None : goal.returns-in-None
returns-in-None c =
    c.one.ensures ∙ (listing-cut (given_of (goal.at.returns-in-None c).At-loop-c) c.args.code.now (bytes (goal.at.returns-in-None c).At-loop-c) c.loop-c.c c.loop-c.answer (going (goal.at.returns-in-None c).In-loop-c) _ (stepped (goal.at.returns-in-None c).After-next_token) c.loop-c.invariant c.in-None.is)

pub returns : goal.returns
returns c = listing_end (given_of (goal.at.returns c).At-loop-c) c.args.code.now (bytes (goal.at.returns c).At-loop-c) c.loop-c.c c.loop-c.answer c.loop-c.invariant (sym c.more.ensures ∙ c.loop-c-test.false)
