-- `named_parts::put_tables` meets its contract: the charset, and the encoding behind it.
use Rattle.std.proofs.Common.{arith, refl, ◌∙◌}
use Rattle.named_parts.specs.NamedPutLaws.{charset-asked, codes-asked, tables_wrote}
use Rattle.named_parts.proofs.put_tables.Goals as goal

pub put_charset_named-requires : goal.put_charset_named-requires
put_charset_named-requires c =
    let h = c.args.c.now.ready in
    charset-asked c.args.c.now.kept _ _ _ _ h.walked.f h.strings.ready h.codes h.plan.ready.read.size h.plan.apart c.args.out.now.bytes.now c.args.out.now.at c.requires

pub put_encoding-requires : goal.put_encoding-requires
put_encoding-requires c =
    let h = c.args.c.now.ready in
    let q = codes-asked c.args.c.now.kept _ _ _ _ h.walked.f h.strings.ready h.codes h.plan.ready.read.size h.plan.apart c.args.out.now.bytes.now c.args.out.now.at c.requires
    c.put_charset_named.ensures.0.wrote in
    (q.0, q.1, q.2, c.args.c.now.long)

pub returns : goal.returns
returns c =
    let h = c.args.c.now.ready in (
      record {
        wrote = tables_wrote c.args.c.now.kept _ _ _ _ h.walked.f h.strings.ready h.codes h.plan.ready.read.size h.plan.apart c.args.out.now.bytes.now c.args.out.now.at c.requires
            c.put_charset_named.ensures.0.wrote c.put_encoding.ensures.wrote;
        same = c.put_encoding.ensures.same ∙ c.put_charset_named.ensures.0.same;
        size = c.put_encoding.ensures.size ∙ c.put_charset_named.ensures.0.size;
      },
      record { kept = c.put_charset_named.ensures.1; parts = refl; encoding = refl; codes = refl },
    )
