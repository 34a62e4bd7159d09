-- The token by its first byte.
use Rattle.std.proofs.Common.{◌+◌, drop, get_or, refl, sym, ◌∙◌}
use Rattle.sgf_rules.specs.declared.token.TokenKind.TheVariants as kind
use Rattle.sgf_rules.specs.Tokens.{Open, Close, Semicolon, Stray}
use Rattle.sgf_rules.proofs.CutTokens.{open_at, close_at, semicolon_at, bracket_at, letter_at, stray_at}
use Rattle.sgf_read.proofs.TokenLemmas.{sign_at}
use Rattle.sgf_read.proofs.token.token_at.Goals as goal

-- a tree opens
pub returns-then-b-eq40 : goal.returns-then-b-eq40
returns-then-b-eq40 c =
    sign_at c.args.text.now c.args.at c.sign.result kind.Open Open c.requires c.sign.ensures (λ bytes. refl)
    (open_at (get_or c.args.text.now c.args.at 0) (drop (c.args.at + 1) c.args.text.now) c.if-b-eq40.true)

-- a tree closes
pub returns-then-b-eq41 : goal.returns-then-b-eq41
returns-then-b-eq41 c =
    sign_at c.args.text.now c.args.at c.sign-then-b-eq41.result kind.Close Close c.requires
    c.sign-then-b-eq41.ensures (λ bytes. refl)
    (close_at (get_or c.args.text.now c.args.at 0) (drop (c.args.at + 1) c.args.text.now) c.if-b-eq41.true)

-- a node begins
pub returns-then-b-eq59 : goal.returns-then-b-eq59
returns-then-b-eq59 c =
    sign_at c.args.text.now c.args.at c.sign-then-b-eq59.result kind.Semicolon Semicolon c.requires
    c.sign-then-b-eq59.ensures (λ bytes. refl)
    (semicolon_at (get_or c.args.text.now c.args.at 0) (drop (c.args.at + 1) c.args.text.now) c.if-b-eq59.true)

-- a value begins
pub returns-then-b-eq91 : goal.returns-then-b-eq91
returns-then-b-eq91 c = record {
  lies = c.value_at.ensures.lies;
  token = bracket_at (get_or c.args.text.now c.args.at 0) (drop (c.args.at + 1) c.args.text.now) c.if-b-eq91.true
      ∙ c.value_at.ensures.value;
}

-- letters begin
pub returns-then-is_letter : goal.returns-then-is_letter
returns-then-is_letter c = record {
  lies = c.letters_at.ensures.lies;
  token = letter_at (get_or c.args.text.now c.args.at 0) (drop (c.args.at + 1) c.args.text.now) c.if-b-eq40.false
      c.if-b-eq41.false c.if-b-eq59.false c.if-b-eq91.false (sym c.is_letter.ensures ∙ c.if-is_letter.true)
      ∙ c.letters_at.ensures.letters;
}

-- a stray byte
pub returns-else-is_letter : goal.returns-else-is_letter
returns-else-is_letter c =
    sign_at c.args.text.now c.args.at c.sign-else-is_letter.result kind.Stray Stray c.requires
    c.sign-else-is_letter.ensures (λ bytes. refl)
    (stray_at (get_or c.args.text.now c.args.at 0) (drop (c.args.at + 1) c.args.text.now) c.if-b-eq40.false
    c.if-b-eq41.false c.if-b-eq59.false c.if-b-eq91.false (sym c.is_letter.ensures ∙ c.if-is_letter.false))
