use Rattle.std.proofs.Common.{codes, decimal, length}
use Rattle.thes_http.specs.Responses.{head_text, status_line, media_type, allow_text, body_text}
use Rattle.thes_http.proofs.WriteLemmas.{head_parts}
use Rattle.thes_http.proofs.response.Response.head.Goals as goal

pub returns : goal.returns
unfolding head_text
returns c =
    let r = c.args.self.now in
    rw (
      c.push-7.ensures.text,
      c.push-6.ensures.text,
      c.push-5.ensures.text,
      c.push_number.ensures.text,
      c.push-4.ensures.text,
      c.push-3.ensures.text,
      c.push-2.ensures.text,
      c.push.ensures.text,
      c.line.ensures.text,
      c.name.ensures.text,
      c.allow.ensures.text,
      c.new-head.ensures,
      c.requires,
    )
    (head_parts (status_line r.status) (codes "Content-Type: ") (media_type r.media) (codes "\r\n")
    (codes "Content-Length: ") (decimal (length (body_text r.body))) (codes "Connection: close")
    (allow_text r.body))
